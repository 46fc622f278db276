-- Lines of a reader, one call after another.
use Rattle.std.proofs.Common.{inl, inr, ◌≡◌, ℕ, ◌+◌, ◌-◌, ◌^◌, ◌<◌, ◌≤◌, Bool, List, [], ◌∷◌, ◌++◌, Option, Some, None, Ok, Err, length, refl, sym, ap, ◌∙◌, arith, subst, append_assoc, append-nil}
use Rattle.std.specs.Prelude.{◌⊎◌, option_map}
use Rattle.std.specs.Option.{option_to_list}
use Rattle.std.specs.Io.KnownBytes.{Consumes, IsAtEnd}
use Rattle.std.proofs.KnownBytes.{Consumes-nil, Consumes-trans}
use Rattle.std.proofs.lemmas.List.{length-append, length-map, length_push, map_push}
use Rattle.tl_device.specs.Device.{Passage}
use Rattle.tl_lines.specs.Lines.{Closes, Entry, HoldsNoLine, IsAtLine, Tells, Told, Uncut, to_come}
use Rattle.tl_lines.specs.Reading.{FillsBlock, HeardEnd, Hears, ReadBlock, ReadEnd, ReadsLine, ReadsMost, TellsAll, TellsNone, TellsOf, TellsShort, all_entries, told}
use Rattle.tl_lines.specs.declared.next_line.NextLine.{NextLine}
use Rattle.tl_lines.specs.declared.fault.LineFault.{LineFault}
use Rattle.tl_lines.specs.declared.fault.LineFault.TheVariants as faults
use Rattle.tl_lines.proofs.CuttingLemmas.{block_read, newline_comes, still_at_line, tells_nothing, tells_then}

-- a device before and after
abbrev pub over : Option (List ℕ) → Option (List ℕ) → Bool → Bool → Passage
over a b f g = record { old = a; new = b; had_failed = f; has_failed = g }

nothing_left : (read rest all : List ℕ) → all ≡ read ++ rest → all ≡ [] → (read ≡ []) × (rest ≡ [])
nothing_left [] rest all joined none = (refl, sym joined ∙ none)
nothing_left (x ∷ read) rest all joined none = absurd cc

module _ (u v w : Uncut) (f g h : Bool) where
  -- after the end of a reader that is known nothing more is heard
  heard_after : (a b c : Option (List ℕ)) (x y : List ℕ) (later : List Told) → Tells v w y later
      → HeardEnd u v (over a b f g) x → Consumes b c y → Hears u w (over a c f h) (x ++ y)
  heard_after None b c x y later tells end consumed = inl tt
  heard_after (Some all) None c x y later tells end consumed = absurd end.consumed
  heard_after (Some all) (Some rest) None x y later tells end consumed = absurd consumed
  heard_after (Some all) (Some rest) (Some left) x y later tells end consumed =
      let none = nothing_left y left rest consumed end.ended in
      let same : x ++ y ≡ x = ap (λ l. x ++ l) none.0 ∙ append-nil x in
      inr (record {
        read = end.read;
        consumed = end.consumed ∙ ap (λ l. end.read ++ l) (end.ended ∙ sym none.1);
        ended = none.1;
        closed = same ∙ end.closed;
        lacked = ap (to_come u) same ∙ end.lacked;
        at_line = still_at_line v w later (subst (λ (l : List ℕ). Tells v w l later) none.0 tells) end.at_line;
      })

  ended_after : (a b c : Option (List ℕ)) (x y : List ℕ)
      → HeardEnd u v (over a b f g) x → HeardEnd v w (over b c g h) y → Hears u w (over a c f h) (x ++ y)
  ended_after None b c x y end next = inl tt
  ended_after (Some all) None c x y end next = absurd end.consumed
  ended_after (Some all) (Some rest) None x y end next = absurd next.consumed
  ended_after (Some all) (Some rest) (Some left) x y end next =
      let none = nothing_left next.read left rest next.consumed end.ended in
      let newline : y ≡ 10 ∷ [] = next.closed ∙ ap (λ l. l ++ 10 ∷ []) none.0 in
      absurd (newline_comes v end.at_line (ap (to_come v) (sym newline) ∙ next.lacked ∙ ap (to_come v) none.0))

  -- what is heard in one call and the next
  pub hears_then : (a b c : Option (List ℕ)) (x y : List ℕ) (before later : List Told) → Tells u v x before → Tells v w y later
      → Hears u v (over a b f g) x → Hears v w (over b c g h) y → Hears u w (over a c f h) (x ++ y)
  hears_then a b c x y before later first then (inl some) (inl more) = inl (Consumes-trans a b c x y some more)
  hears_then a b c x y before later first then (inl some) (inr next) = inr (record {
    read = x ++ next.read;
    consumed = Consumes-trans a b c x next.read some next.consumed;
    ended = next.ended;
    closed = ap (λ l. x ++ l) next.closed ∙ sym (append_assoc x next.read (10 ∷ []));
    lacked = first.first y ∙ ap (λ ts. before ++ ts) next.lacked ∙ sym (first.first next.read);
    at_line = next.at_line;
  })
  hears_then a b c x y before later first then (inr end) (inl more) = heard_after a b c x y later then end more
  hears_then a b c x y before later first then (inr end) (inr next) = ended_after a b c x y end next

  pub of_then : (a b c : Option (List ℕ)) (before later : List Told)
      → TellsOf u v (over a b f g) before → TellsOf v w (over b c g h) later → TellsOf u w (over a c f h) (before ++ later)
  of_then a b c before later first then = record {
    heard = first.heard ++ then.heard;
    hears = hears_then a b c first.heard then.heard before later first.tells then.tells first.hears then.hears;
    tells = tells_then u v w first.heard then.heard before later first.tells then.tells;
    steady = then.steady ∙ first.steady;
  }

-- what was read while no line was reported, and that it has at least as many bytes as there were reads
pub record HasRead (u v : Uncut) (a b : Option (List ℕ)) (f g : Bool) (reads : ℕ) : Type 0 where
  pub heard : List ℕ
  pub consumed : Consumes a b heard
  pub tells : Tells u v heard []
  pub count : reads ≤ length heard
  pub held : length v.waiting ≤ length u.waiting + length heard
  pub steady : g ≡ f

pub none_read : (u : Uncut) (a : Option (List ℕ)) (f : Bool) → HasRead u u a a f f 0
none_read u a f = record { heard = []; consumed = Consumes-nil a; tells = tells_nothing u; count = omega arith; held = omega arith; steady = refl }

module _ (u v : Uncut) (a b : Option (List ℕ)) (f g : Bool) (reads : ℕ) (so_far : HasRead u v a b f g reads) where
  -- lines of what is held
  pub held_told : (w : Uncut) (told : List Told) → Tells v w [] told → TellsOf u w (over a b f g) told
  held_told w told tells = record {
    heard = so_far.heard ++ [];
    hears = inl (Consumes-trans a b b so_far.heard [] so_far.consumed (Consumes-nil b));
    tells = tells_then u v w so_far.heard [] [] told so_far.tells tells;
    steady = so_far.steady;
  }

  pub held_short : (w : Uncut) → Tells v w [] [] → 0 < length v.waiting → TellsShort u w (over a b f g) []
  held_short w tells some = record {
    heard = so_far.heard ++ [];
    hears = inl (Consumes-trans a b b so_far.heard [] so_far.consumed (Consumes-nil b));
    tells = tells_then u v w so_far.heard [] [] [] so_far.tells tells;
    steady = so_far.steady;
    asked = omega (arith, some, so_far.held, ap length (append-nil so_far.heard));
  }

  -- one read more
  pub read_more : (w x : Uncut) (c : Option (List ℕ)) (h : Bool) → Tells v w [] [] → HoldsNoLine w → ReadBlock w x (over b c g h) → HasRead u x a c f h (reads + 1)
  read_more w x c h cut none block =
      let read = x.waiting in
      let held = tells_then u v w so_far.heard [] [] [] so_far.tells cut in
      record {
        heard = (so_far.heard ++ []) ++ read;
        consumed = Consumes-trans a b c (so_far.heard ++ []) read (Consumes-trans a b b so_far.heard [] so_far.consumed (Consumes-nil b)) block.consumed;
        tells = tells_then u w x (so_far.heard ++ []) read [] [] held (block_read w x none.cut block.same);
        count = omega (arith, so_far.count, block.some, ap length (append-nil so_far.heard), length-append (so_far.heard ++ []) read);
        held = omega (arith, length-append (so_far.heard ++ []) read);
        steady = block.steady ∙ so_far.steady;
      }

  -- the end
  closed_by : (w x : Uncut) (c : Option (List ℕ)) (h : Bool) (told : List Told) (newline : List ℕ) → (newline ≡ []) ⊎ (newline ≡ 10 ∷ [])
      → Tells u w so_far.heard [] → to_come w newline ≡ to_come w [] → Tells w x newline told → IsAtLine x → Consumes b c [] → IsAtEnd c → h ≡ g
      → Hears u x (over a c f h) (so_far.heard ++ newline)
  closed_by w x c h told newline (inl none) held lacked tells at consumed ended steady =
      inl (subst (λ (l : List ℕ). Consumes a c (so_far.heard ++ l)) (sym none) (Consumes-trans a b c so_far.heard [] so_far.consumed consumed))
  closed_by w x c h told newline (inr one) held lacked tells at consumed ended steady = inr (record {
    read = so_far.heard ++ [];
    consumed = Consumes-trans a b c so_far.heard [] so_far.consumed consumed;
    ended = ended;
    closed = ap (λ l. so_far.heard ++ l) one ∙ ap (λ l. l ++ 10 ∷ []) (sym (append-nil so_far.heard));
    lacked = held.first newline ∙ lacked ∙ sym (held.first []);
    at_line = at;
  })

  pub end_told : (w x y : Uncut) (c : Option (List ℕ)) (h : Bool) (told : List Told) → Tells v w [] [] → ReadEnd w x (over b c g h) → Closes x y told → TellsOf u y (over a c f h) told
  end_told w x y c h told cut end closes =
      let held = subst (λ (l : List ℕ). Tells u w l []) (append-nil so_far.heard) (tells_then u v w so_far.heard [] [] [] so_far.tells cut) in
      let here = subst (λ (s : Uncut). Tells u s so_far.heard []) (sym end.same) held in
      record {
        heard = so_far.heard ++ closes.newline;
        hears = closed_by x y c h told closes.newline closes.one here closes.lacked closes.tells closes.at_line end.consumed end.ended end.steady;
        tells = tells_then u x y so_far.heard closes.newline [] told here closes.tells;
        steady = end.steady ∙ so_far.steady;
      }

  pub end_read : {A : Type 0} (w x y : Uncut) (c : Option (List ℕ)) (h : Bool) (last : Option (NextLine A)) → Tells v w [] [] → ReadEnd w x (over b c g h)
      → Closes x y (option_to_list (option_map told last)) → ReadsLine u y (over a c f h) (Ok last)
  end_read w x y c h None cut end closes = record { lines = end_told w x y c h [] cut end closes; ended = end.ended; at_line = closes.at_line }
  end_read w x y c h (Some line) cut end closes = end_told w x y c h (told line ∷ []) cut end closes

  -- a read that failed
  pub read_failed : (A : Type 0) (w x : Uncut) (c : Option (List ℕ)) (h : Bool) (fault : LineFault) → Tells v w [] [] → FillsBlock w x (over b c g h) (Err fault) → ReadsLine {A = A} u x (over a c f h) (Err fault)
  read_failed A w x c h faults.Read cut failed = record {
    heard = so_far.heard ++ [];
    tells = subst (λ (s : Uncut). Tells u s (so_far.heard ++ []) []) (sym failed.1) (tells_then u v w so_far.heard [] [] [] so_far.tells cut);
    failed = failed.0;
  }
  read_failed A w x c h faults.TooFew cut failed = absurd failed
  read_failed A w x c h (faults.TooLong number) cut failed = absurd failed
  read_failed A w x c h faults.Endless cut failed = absurd failed
  read_failed A w x c h faults.OutOfMemory cut failed = absurd failed

  -- too many reads
  pub never_ended : 2 ^ 64 - 1 ≤ reads → TellsNone u v (over a b f g) []
  never_ended many = record { heard = so_far.heard; hears = inl so_far.consumed; tells = so_far.tells; steady = so_far.steady; endless = omega (arith, many, so_far.count) }

-- memory was asked for, in this call or for a line before
some_asked : (lines : List (List ℕ)) (u v : Uncut) (before heard : List ℕ) → (length lines ≡ 0 → v ≡ u) → 0 < 0 + (length v.waiting + length heard)
    → 0 < length (all_entries lines) + (length u.waiting + length (before ++ heard))
some_asked [] u v before heard first asked = omega (arith, asked, ap (λ (s : Uncut). length s.waiting) (first refl), length-append before heard)
some_asked (line ∷ lines) u v before heard first asked = omega arith

-- no line was read
pub none_of : (u : Uncut) (a : Option (List ℕ)) (f : Bool) → TellsOf u u (over a a f f) []
none_of u a f = record { heard = []; hears = inl (Consumes-nil a); tells = tells_nothing u; steady = refl }

module _ (u v w : Uncut) (a b c : Option (List ℕ)) (f g h : Bool) (lines : List (List ℕ)) (so_far : TellsOf u v (over a b f g) (all_entries lines)) where
  -- one line more
  pub entry_more : (line : List ℕ) → TellsOf v w (over b c g h) (Entry line ∷ []) → TellsOf u w (over a c f h) (all_entries (lines ++ line ∷ []))
  entry_more line next =
      subst (λ (ts : List Told). TellsOf u w (over a c f h) ts) (sym (map_push Entry lines line)) (of_then u v w f g h a b c (all_entries lines) (Entry line ∷ []) so_far next)

  pub none_more : TellsOf v w (over b c g h) [] → TellsOf u w (over a c f h) (all_entries lines)
  none_more next = subst (λ (ts : List Told). TellsOf u w (over a c f h) ts) (append-nil (all_entries lines)) (of_then u v w f g h a b c (all_entries lines) [] so_far next)

  pub all_read : TellsAll v w (over b c g h) [] → TellsAll u w (over a c f h) (all_entries lines)
  all_read next = record { lines = none_more next.lines; ended = next.ended; at_line = next.at_line }

  -- a line that isn't given
  pub line_failed : (A : Type 0) (count : ℕ) (fault : LineFault) → length lines < count → (length lines ≡ 0 → v ≡ u) → ReadsLine {A = A} v w (over b c g h) (Err fault) → ReadsMost {A = A} count u w (over a c f h) (Err fault)
  line_failed A count faults.Read few first next = (
    lines,
    few,
    record {
      heard = so_far.heard ++ next.heard;
      tells = subst (λ (ts : List Told). Tells u w (so_far.heard ++ next.heard) ts) (append-nil (all_entries lines))
          (tells_then u v w so_far.heard next.heard (all_entries lines) [] so_far.tells next.tells);
      failed = next.failed;
    },
  )
  line_failed A count faults.TooFew few first next = absurd next
  line_failed A count (faults.TooLong number) few first next = absurd next
  line_failed A count faults.Endless few first next = (
    lines,
    few,
    record {
      heard = so_far.heard ++ next.heard;
      hears = hears_then u v w f g h a b c so_far.heard next.heard (all_entries lines) [] so_far.tells next.tells so_far.hears next.hears;
      tells = subst (λ (ts : List Told). Tells u w (so_far.heard ++ next.heard) ts) (append-nil (all_entries lines))
          (tells_then u v w so_far.heard next.heard (all_entries lines) [] so_far.tells next.tells);
      steady = next.steady ∙ so_far.steady;
      endless = omega (arith, next.endless, length-append so_far.heard next.heard);
    },
  )
  line_failed A count faults.OutOfMemory few first next = (
    lines,
    omega (arith, few),
    omega (arith, few),
    record {
      heard = so_far.heard ++ next.heard;
      hears = hears_then u v w f g h a b c so_far.heard next.heard (all_entries lines) [] so_far.tells next.tells so_far.hears next.hears;
      tells = subst (λ (ts : List Told). Tells u w (so_far.heard ++ next.heard) ts) (append-nil (all_entries lines))
          (tells_then u v w so_far.heard next.heard (all_entries lines) [] so_far.tells next.tells);
      steady = next.steady ∙ so_far.steady;
      asked = some_asked lines u v so_far.heard next.heard first next.asked;
    },
  )

  -- memory runs out for one more line
  pub entry_short : (line : List ℕ) → TellsOf v w (over b c g h) (Entry line ∷ []) → TellsShort u w (over a c f h) (all_entries (lines ++ line ∷ []))
  entry_short line next =
      let more = entry_more line next in
      record {
        heard = more.heard;
        hears = more.hears;
        tells = more.tells;
        steady = more.steady;
        asked = omega (arith, length-map (lines ++ line ∷ []) Entry, length_push lines line);
      }
