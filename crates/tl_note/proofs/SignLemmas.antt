-- Signers in order: what holds of those before a place, and of one more.
use Rattle.std.proofs.Common.{◌≡◌, ℕ, suc, ◌+◌, ◌<◌, ◌≤◌, List, [], ◌∷◌, ◌++◌, length, take, map, get_or, refl, sym, ap, subst, ◌∙◌, append_assoc, arith, All, Some, Ok, Err, Result}
use Rattle.std.specs.Prelude.{slice_get, IsTrue, IsErrAnd, ⊤}
use Rattle.std.specs.List.{flat_map}
use Rattle.std.proofs.lemmas.List.{length-map, take_more, get_or-map, flat_map_more, take_all}
use Rattle.std.proofs.lemmas.List.Elements.{All-push}
use Rattle.std.proofs.lemmas.Option.{slice_get-get_or}
use Rattle.tl_note.specs.Key.{SigningKey, IsKeyName}
use Rattle.tl_note.specs.Note.{Signature, IsSignature, signature_line, Note}
use Rattle.tl_note.specs.SignNote.{IsSignedBy, AreSigned, CanSign}
use Rattle.tl_note.specs.Inner.Signing.{AddsLines, SignsLine, SignsLines}
use Rattle.tl_note.specs.declared.fault.NoteFault.{NoteFault}
use Rattle.tl_note.specs.declared.fault.NoteFault.TheVariants.{Malformed, BadName, Ambiguous, InvalidSignature, Unverified, Sign, OutOfMemory}

abbrev pub IsNamed : SigningKey → Type 0
IsNamed key = IsKeyName key.name

signed_push : (message : List ℕ) (keys : List SigningKey) (lines : List Signature) (key : SigningKey) (line : Signature) → AreSigned message keys lines → IsSignedBy message key line → AreSigned message (keys ++ key ∷ []) (lines ++ line ∷ [])
signed_push message [] [] key line before by = (by, tt)
signed_push message [] (l ∷ lines) key line before by = absurd before
signed_push message (k ∷ keys) [] key line before by = absurd before
signed_push message (k ∷ keys) (l ∷ lines) key line before by = (before.0, signed_push message keys lines key line before.1 by)

-- the key of the signer at a place
module _ {B : Type 0} (view : B → SigningKey) (xs : List B) where
  pub view_at : (i : ℕ) (x : B) → i < length xs → x ≡ get_or xs i x → slice_get (map view xs) i ≡ Some (view x)
  view_at i x lt is = slice_get-get_or (map view xs) i (view x) (omega (arith, lt, length-map xs view)) ∙ ap (λ (k : SigningKey). Some k) (get_or-map view xs i x (view x) lt ∙ ap view (sym is))

  pub view_more : (i : ℕ) (x : B) → i < length xs → x ≡ get_or xs i x → take (i + 1) (map view xs) ≡ take i (map view xs) ++ view x ∷ []
  view_more i x lt is = take_more (map view xs) i (view x) (omega (arith, lt, length-map xs view)) ∙ ap (λ (k : SigningKey). take i (map view xs) ++ k ∷ []) (get_or-map view xs i x (view x) lt ∙ ap view (sym is))

  pub names_more : (i : ℕ) (x : B) → i < length xs → x ≡ get_or xs i x → All IsNamed (take i (map view xs)) → IsNamed (view x) → All IsNamed (take (i + 1) (map view xs))
  names_more i x lt is before named = subst (All IsNamed) (sym (view_more i x lt is)) (All-push IsNamed (take i (map view xs)) (view x) before named)

  pub names_all : (i : ℕ) → length xs ≤ i → All IsNamed (take i (map view xs)) → All IsNamed (map view xs)
  names_all i le before = subst (All IsNamed) (take_all i (map view xs) (omega (arith, le, length-map xs view))) before

  pub name_at : (i : ℕ) (x : B) → i < length xs → x ≡ get_or xs i x → All IsNamed (map view xs) → IsNamed (view x)
  name_at i x lt is each = subst IsNamed (get_or-map view xs i x (view x) lt ∙ ap view (sym is)) (each i (view x) (omega (arith, lt, length-map xs view)))

  pub signed_more : (message old now new : List ℕ) (i : ℕ) (x : B) (line : Signature) → i < length xs → x ≡ get_or xs i x → AddsLines message (take i (map view xs)) old now → IsSignature line → IsSignedBy message (view x) line → new ≡ now ++ signature_line line
      → AddsLines message (take (i + 1) (map view xs)) old new
  signed_more message old now new i x line lt is before lawful by added = record {
    lines = before.lines ++ line ∷ [];
    each = All-push IsSignature before.lines line before.each lawful;
    signed = subst (λ (ks : List SigningKey). AreSigned message ks (before.lines ++ line ∷ [])) (sym (view_more i x lt is)) (signed_push message (take i (map view xs)) before.lines (view x) line before.signed by);
    added = added ∙ ap (λ (t : List ℕ). t ++ signature_line line) before.added ∙ append_assoc old (flat_map signature_line before.lines) (signature_line line) ∙ ap (λ (t : List ℕ). old ++ t) (flat_map_more signature_line [] before.lines line);
  }

  pub signed_all : (message old new : List ℕ) (i : ℕ) → length xs ≤ i → AddsLines message (take i (map view xs)) old new → AddsLines message (map view xs) old new
  signed_all message old new i le before = subst (λ (ks : List SigningKey). AddsLines message ks old new) (take_all i (map view xs) (omega (arith, le, length-map xs view))) before

signed_length : (message : List ℕ) (keys : List SigningKey) (lines : List Signature) → AreSigned message keys lines → length lines ≡ length keys
signed_length message [] [] each = refl
signed_length message [] (l ∷ lines) each = absurd each
signed_length message (k ∷ keys) [] each = absurd each
signed_length message (k ∷ keys) (l ∷ lines) each = ap (λ (n : ℕ). suc n) (signed_length message keys lines each.1)

-- the lines make a note
pub note_of : (text new : List ℕ) (keys : List SigningKey) → CanSign text keys → (adds : AddsLines text keys (text ++ 10 ∷ []) new) → Note new text adds.lines
note_of text new keys can adds = record {
  readable = can.readable;
  each = adds.each;
  some = omega (arith, can.some, signed_length text keys adds.lines adds.signed);
  few = omega (arith, can.few, signed_length text keys adds.lines adds.signed);
  spelled = adds.added ∙ append_assoc text (10 ∷ []) (flat_map signature_line adds.lines);
}

-- the line of a signer
pub line_of : (key : SigningKey) (message name signature old new : List ℕ) (id : ℕ) → IsSignature (record { name = name; id = id; bytes = signature }) → name ≡ key.name → id ≡ key.id → IsTrue (key.may_give message signature)
    → new ≡ old ++ signature_line (record { name = name; id = id; bytes = signature }) → (line : Signature) × IsSignature line × IsSignedBy message key line × (new ≡ old ++ signature_line line)
line_of key message name signature old new id lawful same_name same_id given added =
    (record { name = name; id = id; bytes = signature }, lawful, record { name = same_name; id = same_id; given = given }, added)

-- the fault of the signer at a place
pub fault_at : {B : Type 0} (view : B → SigningKey) (xs : List B) (message old now new : List ℕ) (i : ℕ) (x : B) (fault : NoteFault) → i < length xs → x ≡ get_or xs i x → SignsLine message (view x) i now new (Err fault) → SignsLines message (map view xs) old new (Err fault)
fault_at view xs message old now new i x Malformed lt is fails = fails
fault_at view xs message old now new i x (BadName n) lt is fails = fails
fault_at view xs message old now new i x (Ambiguous n) lt is fails = fails
fault_at view xs message old now new i x (InvalidSignature n) lt is fails = fails
fault_at view xs message old now new i x Unverified lt is fails = fails
fault_at view xs message old now new i x (Sign n) lt is fails = (view x, ap (slice_get (map view xs)) fails.0 ∙ view_at view xs i x lt is, fails.1)
fault_at view xs message old now new i x OutOfMemory lt is fails = fails

-- the fault is passed on
pub passes_on : {B : Type 0} (view : B → SigningKey) (xs : List B) (message old now new : List ℕ) (i : ℕ) (x : B) (fault : NoteFault) (r : Result ⊤ NoteFault) → i < length xs → x ≡ get_or xs i x → SignsLine message (view x) i now new (Err fault) → IsErrAnd r (λ e. e ≡ fault) → SignsLines message (map view xs) old new r
passes_on view xs message old now new i x fault (Ok u) lt is fails same = absurd same
passes_on view xs message old now new i x fault (Err e) lt is fails same = subst (λ (f : NoteFault). SignsLines message (map view xs) old new (Err f)) (sym same) (fault_at view xs message old now new i x fault lt is fails)
