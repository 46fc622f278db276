-- The keys of the witnesses that a log asks, text by text.
use Rattle.std.proofs.Common.{◌≡◌, ℕ, ◌+◌, ◌<◌, List, [], ◌∷◌, ◌++◌, map, take, length, get_or, sym, ap, ◌∙◌}
use Rattle.std.specs.Prelude.{string_bytes}
use Rattle.std.proofs.lemmas.List.{map-append, take_more}
use Rattle.tl_hash.specs.Bytes.{Bytes}
use Rattle.tl_key.specs.KeyText.{IsVerifierText}
use Rattle.tl_key.specs.NoteKey.{PublicKey, cosignature_kind}
use Rattle.tl_serve.specs.declared.options.AskedWitness.{AskedWitness}
use Rattle.tl_serve.specs.Asking.{AreKeysOf}

-- the text of its key
abbrev pub text_of : AskedWitness → Bytes
text_of w = string_bytes w.key

-- the key of one more
pub one_more : (texts : List Bytes) (keys : List PublicKey) (text : Bytes) (k : PublicKey) → AreKeysOf texts keys → IsVerifierText cosignature_kind text k
    → AreKeysOf (texts ++ text ∷ []) (keys ++ k ∷ [])
one_more [] [] text k none own = (own, tt)
one_more [] (key ∷ keys) text k none own = absurd none
one_more (t ∷ texts) [] text k none own = absurd none
one_more (t ∷ texts) (key ∷ keys) text k all own = (all.0, one_more texts keys text k all.1 own)

pub texts_more : (asked : List AskedWitness) (i : ℕ) (w : AskedWitness) → i < length asked → w ≡ get_or asked i w
    → map text_of (take (i + 1) asked) ≡ map text_of (take i asked) ++ text_of w ∷ []
texts_more asked i w less is =
    ap (map text_of) (take_more asked i w less) ∙ map-append text_of (take i asked) (get_or asked i w ∷ []) ∙ ap (λ (x : AskedWitness). map text_of (take i asked) ++ text_of x ∷ []) (sym is)
