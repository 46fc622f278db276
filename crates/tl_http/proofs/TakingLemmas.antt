-- Taking one text after another, and what decides then.
use Rattle.std.proofs.Common.{◌≡◌, ◌<◌, ℕ, List, [], ◌++◌, Option, Bool, true, false, append-nil, append_assoc, ap, inl, inr, length, refl, subst, sym, ◌∙◌}
use Rattle.tl_device.specs.Reading.{Gave}
use Rattle.tl_http.specs.Get.{Receives}
use Rattle.tl_http.specs.Response.{Outcome}
use Rattle.tl_http.specs.Inner.Taking.{Took}
use Rattle.tl_device.proofs.ReadLemmas.{gave_none}
use Rattle.tl_device.proofs.SendingLemmas.{over}
use Rattle.tl_http.proofs.BodyLemmas.{gave_then}

-- nothing was read or taken
pub took_none : (a : Option (List ℕ)) (f : Bool) (kept : List ℕ) → Took (over a a f f) kept kept []
took_none a f kept = record { bytes = []; gave = gave_none a f; joined = append-nil kept }

-- what was kept and read, with something behind it
joined_then : (old bytes text mid more : List ℕ) → old ++ bytes ≡ text ++ mid → old ++ (bytes ++ more) ≡ text ++ (mid ++ more)
joined_then old bytes text mid more joined =
    sym (append_assoc old bytes more) ∙ (ap (λ (l : List ℕ). l ++ more) joined ∙ append_assoc text mid more)

-- one text was taken, and then another
pub took_then : (a b c : Option (List ℕ)) (f g h : Bool) (old mid new text more : List ℕ)
    → Took (over a b f g) old mid text → Took (over b c g h) mid new more → Took (over a c f h) old new (text ++ more)
took_then a b c f g h old mid new text more first then = record {
  bytes = first.bytes ++ then.bytes;
  gave = gave_then a b c f g h first.bytes then.bytes false first.gave then.gave;
  joined = joined_then old first.bytes text mid then.bytes first.joined
      ∙ (ap (λ (l : List ℕ). text ++ l) then.joined ∙ sym (append_assoc text more new));
}

-- one text was taken, and then another of what is kept
pub took_kept : (a b : Option (List ℕ)) (f g : Bool) (old mid new text more : List ℕ)
    → Took (over a b f g) old mid text → mid ≡ more ++ new → Took (over a b f g) old new (text ++ more)
took_kept a b f g old mid new text more took same = record {
  bytes = took.bytes;
  gave = took.gave;
  joined = took.joined ∙ (ap (λ (l : List ℕ). text ++ l) same ∙ sym (append_assoc text more new));
}

-- more was read behind what is kept
pub took_more : (a b c : Option (List ℕ)) (f g h : Bool) (old mid new text : List ℕ)
    → Took (over a b f g) old mid text → (more : List ℕ) × (0 < length more) × Gave (over b c g h) more false × (new ≡ mid ++ more)
    → Took (over a c f h) old new text
took_more a b c f g h old mid new text took more = record {
  bytes = took.bytes ++ more.0;
  gave = gave_then a b c f g h took.bytes more.0 false took.gave more.2;
  joined = joined_then old took.bytes text mid more.0 took.joined ∙ ap (λ (l : List ℕ). text ++ l) (sym more.3);
}

-- what decides of what follows a text decides of the whole
pub decided_after : (P Q : List ℕ → Outcome → Type 0) (r : Outcome) (a b c : Option (List ℕ)) (f g h : Bool) (old mid text : List ℕ)
    → Took (over a b f g) old mid text → ((rest : List ℕ) → P rest r → Q (text ++ rest) r)
    → Receives (λ rest r. P (mid ++ rest) r) (over b c g h) r → Receives (λ rest r. Q (old ++ rest) r) (over a c f h) r
decided_after P Q r a b c f g h old mid text took step (inl failed) = inl failed
decided_after P Q r a b c f g h old mid text took step (inr came) = inr (record {
  bytes = took.bytes ++ came.bytes;
  ended = came.ended;
  gave = gave_then a b c f g h took.bytes came.bytes came.ended took.gave came.gave;
  so = λ input may.
      let rest : List ℕ = came.bytes ++ may.more in
      let same : old ++ input ≡ text ++ (mid ++ rest) =
      ap (λ (l : List ℕ). old ++ l) (may.joined ∙ append_assoc took.bytes came.bytes may.more)
      ∙ joined_then old took.bytes text mid rest took.joined in
      subst (λ (l : List ℕ). Q l r) (sym same) (step (mid ++ rest) (came.so rest (record { more = may.more; joined = refl; none = may.none })));
})

-- what was taken and what is kept decide, whatever follows
pub decided : (Q : List ℕ → Outcome → Type 0) (r : Outcome) (a b : Option (List ℕ)) (f g : Bool) (old mid text : List ℕ)
    → Took (over a b f g) old mid text → ((rest : List ℕ) → Q (text ++ (mid ++ rest)) r) → Receives (λ rest r. Q (old ++ rest) r) (over a b f g) r
decided Q r a b f g old mid text took step = inr (record {
  bytes = took.bytes;
  ended = false;
  gave = took.gave;
  so = λ input may.
      let same : old ++ input ≡ text ++ (mid ++ may.more) =
      ap (λ (l : List ℕ). old ++ l) may.joined ∙ joined_then old took.bytes text mid may.more took.joined in
      subst (λ (l : List ℕ). Q l r) (sym same) (step may.more);
})

-- the input ended, and what was taken and what is kept decide
pub decided_at_end : (Q : List ℕ → Outcome → Type 0) (r : Outcome) (a b c : Option (List ℕ)) (f g h : Bool) (old mid text : List ℕ)
    → Took (over a b f g) old mid text → Gave (over b c g h) [] true → Q (text ++ mid) r → Receives (λ rest r. Q (old ++ rest) r) (over a c f h) r
decided_at_end Q r a b c f g h old mid text took ended so = inr (record {
  bytes = took.bytes ++ [];
  ended = true;
  gave = gave_then a b c f g h took.bytes [] true took.gave ended;
  so = λ input may.
      let none : may.more ≡ [] = may.none refl in
      let whole : input ≡ took.bytes =
      may.joined ∙ (ap (λ (l : List ℕ). (took.bytes ++ []) ++ l) none ∙ (append-nil (took.bytes ++ []) ∙ append-nil took.bytes)) in
      let same : old ++ input ≡ text ++ mid = ap (λ (l : List ℕ). old ++ l) whole ∙ took.joined in
      subst (λ (l : List ℕ). Q l r) (sym same) so;
})
