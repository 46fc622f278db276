-- Worked examples, computed.
use Rattle.std.proofs.Common.{◌≡◌, ℕ, true, List, [], ◌∷◌, ◌++◌, length, refl, Some, None}
use Rattle.std.specs.Prelude.{codes, bytes_eq}
use Rattle.std.specs.Int.{w64, to_be_bytes}
use Rattle.base64.specs.Rfc4648.{encode_symbols}
use Rattle.tl_note.specs.Key.{Key}
use Rattle.tl_note.specs.Note.{Signature, signature_line, note_bytes}
use Rattle.tl_note.specs.Open.{counting_lines, unknown_lines, first_wrong, is_ambiguous, places}

-- a key whose one signature of a message is the message's length, as 8 bytes

abbrev length_key : List ℕ → ℕ → Key
length_key name id = record { name = name; id = id; accepts = λ message signature. bytes_eq signature (to_be_bytes w64 (length message)) }

abbrev dash : List ℕ
dash = 0xE2 ∷ 0x80 ∷ 0x94 ∷ 32 ∷ []

abbrev empty_log : List ℕ
empty_log = codes "example.com/log\n0\n47DEQpj8HBSa+/TImW+5JCeuQeRkm5NMpJWZG3hSuFU=\n"

abbrev signed : Signature
signed = record { name = codes "example.com/log"; id = 0x01020304; bytes = to_be_bytes w64 (length empty_log) }

signed_line : signature_line signed ≡ dash ++ codes "example.com/log AQIDBAAAAAAAAAA/\n"
unfolding encode_symbols
signed_line = refl

signed_length : length (note_bytes empty_log (signed ∷ [])) ≡ 101
unfolding encode_symbols
signed_length = refl

signed_counts : places (counting_lines (length_key (codes "example.com/log") 0x01020304 ∷ []) (signed ∷ [])) ≡ 0 ∷ []
signed_counts = refl

signed_opens : first_wrong (length_key (codes "example.com/log") 0x01020304 ∷ []) empty_log (signed ∷ []) ≡ None
signed_opens = refl

-- a text with an empty line
abbrev gap : List ℕ
gap = codes "a\n\nb\n"

abbrev by_k : List ℕ → Signature
by_k bytes = record { name = codes "k.example"; id = 0x01020304; bytes = bytes }

abbrev k : Key
k = length_key (codes "k.example") 0x01020304

gap_line : signature_line (by_k (to_be_bytes w64 5)) ≡ dash ++ codes "k.example AQIDBAAAAAAAAAAF\n"
unfolding encode_symbols
gap_line = refl

-- a second line of the key, which isn't valid, is passed over
gap_second : (places (counting_lines (k ∷ []) (by_k (to_be_bytes w64 5) ∷ by_k (to_be_bytes w64 64) ∷ [])) ≡ 0 ∷ []) × (unknown_lines (k ∷ []) (by_k (to_be_bytes w64 5) ∷ by_k (to_be_bytes w64 64) ∷ []) ≡ [])
gap_second = (refl, refl)

-- the line of an unknown key is set aside
gap_unknown : places (unknown_lines (k ∷ []) (by_k (to_be_bytes w64 5) ∷ signed ∷ [])) ≡ 1 ∷ []
gap_unknown = refl

gap_invalid : first_wrong (k ∷ []) gap (by_k (to_be_bytes w64 64) ∷ []) ≡ Some (0, by_k (to_be_bytes w64 64))
gap_invalid = refl

gap_ambiguous : is_ambiguous (k ∷ k ∷ []) (0, by_k (to_be_bytes w64 5)) ≡ true
gap_ambiguous = refl
