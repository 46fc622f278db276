-- What is shown never shrinks, or two notes have one tag.
use Rattle.std.proofs.Common.{◌≡◌, ℕ, ◌≤◌, Bool, true, false, inl, inr, ◌⊎◌, List, [], ◌∷◌, ◌++◌, length, get_or, Option, Some, None, refl, sym, ap, ◌∙◌, append_assoc, subst, if◌then◌else◌, true≢false, arith}
use Rattle.std.proofs.lemmas.Fmt.{decimal_injective}
use Rattle.tl_text.specs.Text.{line, number_text}
use Rattle.tl_text.proofs.Lines.{one_line}
use Rattle.tl_text.proofs.PlainText.{number_plain}
use Rattle.std.specs.Prelude.{Contains, bytes_eq}
use Rattle.std.proofs.lemmas.Slice.Eq.{bytes_eq-Decides}
use Rattle.std.proofs.lemmas.List.Elements.{Contains-append_left, Contains-push_cases, Contains-get_or}
use Rattle.std.proofs.lemmas.List.Quantifiers.{all_pairs_push}
use Rattle.tl_hash.specs.Bytes.{Bytes}
use Rattle.tl_hash.proofs.Bytes.{cases_bytes}
use Rattle.tl_tile.specs.declared.resource.Resource.TheVariants as resource
use Rattle.tl_log.specs.Histories.{Prefix, Begins, last_of, note_if}
use Rattle.tl_archive.specs.Complete.{IsComplete}
use Rattle.tl_archive.proofs.Lists.{none_has, one_has, has_head, has_tail}
use Rattle.tl_bucket.specs.Bucket.{Store, Request, put_commit, put_resource, put_checkpoint, is_met}
use Rattle.tl_bucket.specs.Operators.{Setting, World, beginning, IsWhole, TellsSize, MayReplace, MaySend, Event, sends, does, MayHappen, once_done, after, LeadsBy, Leads}
use Rattle.tl_bucket.specs.Histories.{NeverShrinks, HaveOneTag}
use Rattle.tl_bucket.proofs.Commits.{some_same, by_size}
use Rattle.tl_bucket.proofs.Sound.{IsSound, sound_at_first, on_event}

-- no publication has more entries than the last
abbrev pub TopsAll : List Prefix → Type 0
TopsAll history = (p : Prefix) → last_of history ≡ Some p → (q : Prefix) → Contains history q → length q.entries ≤ length p.entries

-- the history never shrinks, and the last publication has the most entries; or two notes have one tag
abbrev pub IsOrdered : (Bytes → Bytes) → List Prefix → Type 0
IsOrdered tag history = (NeverShrinks history × TopsAll history) ⊎ HaveOneTag tag history

-- ---- lists with one element more at the end

pub last_pushed : (history : List Prefix) (q : Prefix) → last_of (history ++ q ∷ []) ≡ Some q
last_pushed [] q = refl
last_pushed (p ∷ []) q = refl
last_pushed (p ∷ r ∷ history) q = last_pushed (r ∷ history) q

pub last_has : (history : List Prefix) (p : Prefix) → last_of history ≡ Some p → Contains history p
last_has [] p is = absurd (cc)
last_has (q ∷ []) p is = subst (Contains (q ∷ [])) (some_same q p is) (has_head q [])
last_has (q ∷ r ∷ history) p is = has_tail q (r ∷ history) p (last_has (r ∷ history) p is)

-- if there is no last note, nothing was shown
none_shown : (history : List Prefix) → None ≡ note_if (last_of history) → history ≡ []
none_shown [] is = refl
none_shown (p ∷ []) is = absurd (cc)
none_shown (p ∷ r ∷ history) is = absurd (some_last p r history is)
  where
    some_last : (p r : Prefix) (history : List Prefix) → None ≡ note_if (last_of (p ∷ r ∷ history)) → ⊥
    some_last p r [] is = cc
    some_last p r (s ∷ history) is = some_last r s history is

-- the last note is that of the last publication
some_shown : (history : List Prefix) (note : Bytes) → Some note ≡ note_if (last_of history) → (p : Prefix) × (last_of history ≡ Some p) × (p.note ≡ note)
some_shown [] note is = absurd (cc)
some_shown (p ∷ []) note is = (p, refl, sym (some_same note p.note is))
some_shown (p ∷ r ∷ history) note is = some_shown (r ∷ history) note is

tags_more : (tag : Bytes → Bytes) (history : List Prefix) (q : Prefix) → HaveOneTag tag history → HaveOneTag tag (history ++ q ∷ [])
tags_more tag history q have = record {
  one = have.one;
  other = have.other;
  of_one = Contains-append_left history (q ∷ []) have.one have.of_one;
  of_other = Contains-append_left history (q ∷ []) have.other have.of_other;
  apart = have.apart;
  met = have.met;
}

-- one more publication, of a committed log with no fewer entries than any before
push_ordered : (setting : Setting) (store : Store) (history : List Prefix) (q : Prefix) → ((p : Prefix) → Contains history p → IsWhole setting store p)
    → IsWhole setting store q → NeverShrinks history → ((p : Prefix) → Contains history p → length p.entries ≤ length q.entries)
    → NeverShrinks (history ++ q ∷ []) × TopsAll (history ++ q ∷ [])
push_ordered setting store history q each own grows less =
    (all_pairs_push (λ (p r : Prefix). Begins p.entries r.entries) history q grows (λ k d within. begins (get_or history k d) (Contains-get_or history k d within)), tops)
  where
    begins : (p : Prefix) → Contains history p → Begins p.entries q.entries
    begins p has = by_size store p.entries q.entries (each p has).committed own.committed (less p has)

    fits : (p : Prefix) → Contains (history ++ q ∷ []) p → length p.entries ≤ length q.entries
    fits p has = elim (Contains-push_cases history q p has) as (λ _. length p.entries ≤ length q.entries) [
      | inl old ↦ less p old
      | inr new ↦ let same : length q.entries ≡ length p.entries = ap (λ (x : Prefix). length x.entries) new in omega (arith, same)
    ]

    tops : TopsAll (history ++ q ∷ [])
    tops p last r has =
        let same : q ≡ p = some_same q p (sym (last_pushed history q) ∙ last) in
        let long : length q.entries ≡ length p.entries = ap (λ (x : Prefix). length x.entries) same in
        let fit = fits r has in
        omega (arith, fit, long)

-- ---- a checkpoint in the place of another

-- a note states one size
one_size : (note : Bytes) (m n : ℕ) → TellsSize note m → TellsSize note n → m ≡ n
one_size note m n is was =
    let small = is.bounded in
    let few = was.bounded in
    let x : Bytes = line (number_text m) ++ is.rest in
    let y : Bytes = line (number_text n) ++ was.rest in
    let opened : line is.origin ++ x ≡ line was.origin ++ y =
    sym (append_assoc (line is.origin) (line (number_text m)) is.rest) ∙ sym is.spelled ∙ was.spelled ∙ append_assoc (line was.origin) (line (number_text n)) was.rest in
    let first = one_line is.origin was.origin x y is.plain was.plain opened in
    let second = one_line (number_text m) (number_text n) is.rest was.rest (number_plain m (omega (arith, small))) (number_plain n (omega (arith, few))) first.1 in
    decimal_injective m n (omega (arith, small)) (omega (arith, few)) second.0

replaced : (setting : Setting) (store : Store) (history : List Prefix) (q : Prefix) (wanted note : Bytes)
    → ((p : Prefix) → Contains history p → IsWhole setting store p) → IsWhole setting store q
    → MayReplace history (length q.entries) (Some wanted) → Some note ≡ note_if (last_of history)
    → bytes_eq (setting.tag wanted) (setting.tag note) ≡ true → NeverShrinks history → TopsAll history → IsOrdered setting.tag (history ++ q ∷ [])
replaced setting store history q wanted note each own may there met grows tops =
    elim (cases_bytes wanted note) as (λ _. IsOrdered setting.tag (history ++ q ∷ [])) [
      | inl same ↦ inl (push_ordered setting store history q each own grows (less same))
      | inr apart ↦ inr (tags_more setting.tag history q (record {
        one = may.0.0;
        other = last.0;
        of_one = may.0.1;
        of_other = last_has history last.0 last.1;
        apart = λ e. apart (sym may.0.2 ∙ e ∙ last.2);
        met = ap setting.tag may.0.2 ∙ (bytes_eq-Decides (setting.tag wanted) (setting.tag note)).0 met ∙ ap setting.tag (sym last.2);
      }))
    ]
  where
    last : (p : Prefix) × (last_of history ≡ Some p) × (p.note ≡ note)
    last = some_shown history note there

    -- the last has as many entries as the note that was meant states, since both are one note
    less : wanted ≡ note → (p : Prefix) → Contains history p → length p.entries ≤ length q.entries
    less same p has =
        let of_last = (each last.0 (last_has history last.0 last.1)).note in
        let of_meant : TellsSize last.0.note may.1.0 = subst (λ (n : Bytes). TellsSize n may.1.0) (same ∙ sym last.2) may.1.1 in
        let size : length last.0.entries ≡ may.1.0 = one_size last.0.note (length last.0.entries) may.1.0 of_last of_meant in
        let top = tops last.0 last.1 p has in
        let fit = may.1.2 in
        omega (arith, size, top, fit)

first_ordered : (setting : Setting) (q : Prefix) → IsOrdered setting.tag (q ∷ [])
first_ordered setting q = inl (
  λ i j d less within. absurd (omega (arith, less, within)),
  λ p last r has.
      let a : q ≡ p = some_same q p last in
      let b : q ≡ r = one_has q r has in
      let same : length p.entries ≡ length r.entries = ap (λ (x : Prefix). length x.entries) (sym a ∙ b) in
      omega (arith, same),
)

shown_on : (setting : Setting) (store : Store) (history : List Prefix) (q : Prefix) (wanted there : Option Bytes)
    → ((p : Prefix) → Contains history p → IsWhole setting store p) → IsWhole setting store q
    → MayReplace history (length q.entries) wanted → there ≡ note_if (last_of history)
    → is_met setting.tag wanted there ≡ true → NeverShrinks history × TopsAll history → IsOrdered setting.tag (history ++ q ∷ [])
shown_on setting store history q None None each own may last met ordered =
    subst (λ (h : List Prefix). IsOrdered setting.tag (h ++ q ∷ [])) (sym (none_shown history last)) (first_ordered setting q)
shown_on setting store history q None (Some note) each own may last met ordered = absurd (true≢false (sym met))
shown_on setting store history q (Some wanted) None each own may last met ordered = absurd (true≢false (sym met))
shown_on setting store history q (Some wanted) (Some note) each own may last met ordered =
    replaced setting store history q wanted note each own may last met ordered.0 ordered.1

ordered_on : (setting : Setting) (w : World) (wanted : Option Bytes) (q : Prefix) (met : Bool) → IsSound setting w → MaySend setting w (put_checkpoint wanted q)
    → is_met setting.tag wanted (w.store.held resource.Checkpoint) ≡ met → IsOrdered setting.tag w.shown
    → IsOrdered setting.tag (if met then record w { shown = w.shown ++ q ∷ [] } else w).shown
ordered_on setting w wanted q false sound may met ordered = ordered
ordered_on setting w wanted q true sound may met (inr tags) = inr (tags_more setting.tag w.shown q tags)
ordered_on setting w wanted q true sound may met (inl ordered) =
    shown_on setting w.store w.shown q wanted (w.store.held resource.Checkpoint) sound.shown may.0 may.1 sound.last met ordered

-- what is shown doesn't depend on the rest of the world
only_shown : (test : Bool) (a b c : World) → a.shown ≡ b.shown → (if test then a else c).shown ≡ (if test then b else c).shown
only_shown true a b c same = same
only_shown false a b c same = refl

ordered_once_done : (setting : Setting) (w : World) (request : Request) → IsSound setting w → MaySend setting w request → IsOrdered setting.tag w.shown
    → IsOrdered setting.tag (once_done setting.tag w request).shown
ordered_once_done setting w (put_commit n batch) sound may ordered = ordered
ordered_once_done setting w (put_resource r bytes) sound may ordered = ordered
ordered_once_done setting w (put_checkpoint wanted q) sound may ordered =
    let met = is_met setting.tag wanted (w.store.held resource.Checkpoint) in
    subst (IsOrdered setting.tag) (only_shown met (record w { shown = w.shown ++ q ∷ [] }) _ w refl)
    (ordered_on setting w wanted q met sound may refl ordered)

ordered_after : (setting : Setting) (w : World) (e : Event) → IsSound setting w → MayHappen setting w e → IsOrdered setting.tag w.shown
    → IsOrdered setting.tag (after setting.tag w e).shown
ordered_after setting w (sends request) sound may ordered = ordered
ordered_after setting w (does request) sound has ordered = ordered_once_done setting w request sound (sound.sent request has) ordered

ordered_all : (setting : Setting) (es : List Event) (w end : World) → IsSound setting w → LeadsBy setting es w end → IsOrdered setting.tag w.shown → IsOrdered setting.tag end.shown
ordered_all setting [] w end sound same ordered = subst (λ (v : World). IsOrdered setting.tag v.shown) same ordered
ordered_all setting (e ∷ es) w end sound leads ordered =
    ordered_all setting es (after setting.tag w e) end (on_event setting w e sound leads.0).1 leads.1 (ordered_after setting w e sound leads.0 ordered)

pub never_rolled_back : (setting : Setting) → (w : World) → Leads setting beginning w → NeverShrinks w.shown ⊎ HaveOneTag setting.tag w.shown
never_rolled_back setting w leads =
    elim (ordered_all setting leads.0 beginning w (sound_at_first setting) leads.1 at_first) as (λ _. NeverShrinks w.shown ⊎ HaveOneTag setting.tag w.shown) [
      | inl ordered ↦ inl ordered.0
      | inr tags ↦ inr tags
    ]
  where
    at_first : IsOrdered setting.tag []
    at_first = inl (λ i j d less within. absurd (omega (arith, within)), λ p last q has. absurd (none_has q has))

-- what is there is complete for the last publication
pub is_complete : (setting : Setting) (w : World) → IsSound setting w → IsComplete setting.digest w.shown w.store.held
is_complete setting w sound = by_last (last_of w.shown) refl
  where
    by_last : (last : Option Prefix) → last_of w.shown ≡ last → IsComplete setting.digest w.shown w.store.held
    by_last None none = inl (sound.last ∙ ap note_if none)
    by_last (Some q) is =
        let has = last_has w.shown q is in
        inr (q, has, record { note = sound.last ∙ ap note_if is; all = (sound.shown q has).all })
