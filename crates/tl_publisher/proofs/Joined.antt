-- A growth that continues another.
use Rattle.std.proofs.Common.{◌≡◌, ℕ, ◌+◌, ◌-◌, ◌≤◌, List, [], ◌++◌, length, take, drop, sym, ap, subst, ◌∙◌, arith}
use Rattle.std.specs.Prelude.{Result, Ok, Err, OnOk, OnErr}
use Rattle.std.proofs.lemmas.List.{length-append, take_all, take-append-drop, length-take-le}
use Rattle.std.proofs.lemmas.Grind.{flat_map-append}
use Rattle.sha2.specs.Sha256.{sha256}
use Rattle.tl_sequencer.specs.Log.{Log, entries_of}
use Rattle.tl_tile.specs.RightEdge.{EdgeContents}
use Rattle.tl_log.specs.Histories.{last_size}
use Rattle.tl_publisher.specs.Boards.{Board}
use Rattle.tl_publisher.specs.Filled.{filled_from}
use Rattle.tl_publisher.specs.Grown.{Grown, texts_of, IsGrown}
use Rattle.tl_publisher.specs.Running.{IsRunning}
use Rattle.tl_publisher.proofs.Nexts.{filled_stays, filled_more}

-- nothing waits yet in a growth that continues this one
pub grown_forked : (H : List ℕ → List ℕ) (start : ℕ) (entries : List (List ℕ)) (g : Grown) (edge : EdgeContents) (bundle : List ℕ) (waiting : List (List (List ℕ))) → IsGrown H start entries g → edge.size ≡ g.edge.size → edge.kept ≡ g.edge.kept → bundle ≡ g.bundle → waiting ≡ []
    → IsGrown H (length entries) entries (record { edge = edge; bundle = bundle; waiting = waiting })
grown_forked H start entries g edge bundle waiting is size kept same none_waits = record {
  started = omega arith;
  edge = (is.edge.0 ∙ sym size, is.edge.1, kept ∙ is.edge.2);
  bundle = same ∙ is.bundle;
  waiting = ap texts_of none_waits ∙ (let none : 0 ≡ length entries - length entries = omega arith in ap (filled_from H entries (length entries)) none);
}

module _ (H : List ℕ → List ℕ) (start : ℕ) (entries more : List (List ℕ)) (g h : Grown) (is : IsGrown H start entries g) (next : IsGrown H (length entries) (entries ++ more) h) where
  waits : texts_of (g.waiting ++ h.waiting) ≡ filled_from H (entries ++ more) start (length (entries ++ more) - start)
  waits =
      let E : List (List ℕ) = entries ++ more in
      let n : ℕ = length entries - start in
      let m : ℕ = length E - length entries in
      let le : start ≤ length entries = is.started in
      let len : length E ≡ length entries + length more = length-append entries more in
      let seam : length entries ≡ start + n = omega (arith, le) in
      let all : n + m ≡ length E - start = omega (arith, le, len) in
      flat_map-append (λ batch. batch) g.waiting h.waiting
      ∙ ap (λ (t : List (List ℕ)). t ++ texts_of h.waiting) (is.waiting ∙ filled_stays H entries more start n (omega (arith, le)))
      ∙ ap (λ (t : List (List ℕ)). filled_from H E start n ++ t) (next.waiting ∙ ap (λ (k : ℕ). filled_from H E k m) seam)
      ∙ filled_more H E start n m
      ∙ ap (filled_from H E start) all

  pub grown_joined : (waiting : List (List (List ℕ))) → waiting ≡ g.waiting ++ h.waiting → IsGrown H start (entries ++ more) (record { edge = h.edge; bundle = h.bundle; waiting = waiting })
  grown_joined waiting put = record {
    started = (let len = length-append entries more in omega (arith, len, is.started));
    edge = next.edge;
    bundle = next.bundle;
    waiting = ap texts_of put ∙ waits;
  }

-- what runs once it has joined a growth of the whole log
pub joined_running : {A : Type 0} (log : Log A) (g h k : Grown) (p : Board) → IsRunning log g p → IsGrown sha256 g.edge.size (entries_of log) h → k.edge.size ≡ h.edge.size
    → ((start : ℕ) (entries more : List (List ℕ)) → IsGrown sha256 start entries g → IsGrown sha256 (length entries) (entries ++ more) h → IsGrown sha256 start (entries ++ more) k)
    → IsRunning log k p
joined_running log g h k p is next size join =
    let E : List (List ℕ) = entries_of log in
    let n : ℕ = g.edge.size in
    let seam : take n E ++ drop n E ≡ E = take-append-drop n E in
    let front : n ≡ length (take n E) = sym (length-take-le n E is.within) in
    let whole : k.edge.size ≡ length E = size ∙ sym next.edge.0 in
    let own : IsGrown sha256 (length (take n E)) (take n E ++ drop n E) h =
    subst (λ (s : ℕ). IsGrown sha256 s (take n E ++ drop n E) h) front (subst (λ (es : List (List ℕ)). IsGrown sha256 n es h) (sym seam) next) in
    let made = join (last_size p.past.log) (take n E) (drop n E) is.growth own in
    record {
      few = is.few;
      within = omega (arith, whole);
      published = is.published;
      growth = subst (λ (es : List (List ℕ)). IsGrown sha256 (last_size p.past.log) es k) (seam ∙ sym (take_all k.edge.size E (omega (arith, whole)))) made;
    }

-- the same if allocation may fail
pub joins_running : {X E A : Type 0} (r : Result X E) (log : Log A) (g h k : Grown) (p : Board) → IsRunning log g p → IsGrown sha256 g.edge.size (entries_of log) h → OnOk r (k.edge.size ≡ h.edge.size)
    → ((start : ℕ) (entries more : List (List ℕ)) → IsGrown sha256 start entries g → IsGrown sha256 (length entries) (entries ++ more) h → OnOk r (IsGrown sha256 start (entries ++ more) k))
    → OnErr r (k ≡ g) → IsRunning log k p
joins_running (Ok x) log g h k p is next size join same = joined_running log g h k p is next size join
joins_running (Err e) log g h k p is next size join same = subst (λ (x : Grown). IsRunning log x p) (sym same) is
