-- The lines of a proof's text have no newline, and what the provers give is what the text has.
use Rattle.std.proofs.Common.{◌≡◌, ℕ, ◌<◌, ◌≤◌, true, List, [], ◌∷◌, ◌++◌, length, get_or, map, refl, ap, ◌∙◌, arith, All}
use Rattle.std.specs.Prelude.{codes, nat_le}
use Rattle.std.specs.List.{list_all}
use Rattle.std.proofs.lemmas.Bool.{leb-true}
use Rattle.std.proofs.lemmas.List.{get_or-map, length-map}
use Rattle.std.proofs.lemmas.List.Elements.{All-cons, All-append}
use Rattle.std.proofs.lemmas.List.Sums.{AllPass-from_list_all}
use Rattle.tl_hash.specs.Bytes.{IsHash}
use Rattle.tl_text.specs.Text.{number_text, base64_text, HasNoControl, IsSize}
use Rattle.tl_text.proofs.PlainText.{number_plain, base64_plain}
use Rattle.tl_command.specs.Lines.{entries_of, HasNoNewline}
use Rattle.tl_command.specs.ProofText.{Proof, Included, Consistent, IsProof, proof_lines, proof_text}
use Rattle.tl_command.proofs.LineTexts.{entries_of_lines}

abbrev IsPlain : ℕ → Type 0
IsPlain byte = 32 ≤ byte

no_newline : (text : List ℕ) → HasNoControl text → HasNoNewline text
no_newline text plain = λ i d lt e. let visible = plain i d lt in absurd (omega (arith, visible, e))

word_plain : (word : List ℕ) → list_all (λ byte. nat_le 32 byte) word ≡ true → HasNoControl word
word_plain word pass = λ i d lt. leb-true 32 (get_or word i d) (AllPass-from_list_all (λ byte. nat_le 32 byte) word pass i d lt)

pub number_line : (word : List ℕ) (n : ℕ) → list_all (λ byte. nat_le 32 byte) word ≡ true → IsSize n → HasNoNewline (word ++ number_text n)
number_line word n pass small = no_newline (word ++ number_text n) (All-append IsPlain word (number_text n) (word_plain word pass) (number_plain n (omega arith)))

hash_line : (word hash : List ℕ) → list_all (λ byte. nat_le 32 byte) word ≡ true → IsHash hash → HasNoNewline (word ++ base64_text hash)
hash_line word hash pass lawful = no_newline (word ++ base64_text hash) (All-append IsPlain word (base64_text hash) (word_plain word pass) (base64_plain hash lawful.bytes))

pub hash_lines : (hashes : List (List ℕ)) → All IsHash hashes → All HasNoNewline (map base64_text hashes)
hash_lines hashes each = λ i d lt.
    let within : i < length hashes = omega (arith, lt, length-map hashes base64_text) in
    rw (get_or-map base64_text hashes i [] d within) (hash_line [] (get_or hashes i []) refl (each i [] within))

five_plain : (a b c d e : List ℕ) (rest : List (List ℕ)) → HasNoNewline a → HasNoNewline b → HasNoNewline c → HasNoNewline d → HasNoNewline e → All HasNoNewline rest
    → All HasNoNewline (a ∷ b ∷ c ∷ d ∷ e ∷ rest)
five_plain a b c d e rest pa pb pc pd pe each =
    All-cons HasNoNewline a (b ∷ c ∷ d ∷ e ∷ rest) pa (All-cons HasNoNewline b (c ∷ d ∷ e ∷ rest) pb (All-cons HasNoNewline c (d ∷ e ∷ rest) pc
    (All-cons HasNoNewline d (e ∷ rest) pd (All-cons HasNoNewline e rest pe each))))

-- the lines of a proof's text have no newline
pub proof_plain : (p : Proof) → IsProof p → All HasNoNewline (proof_lines p)
proof_plain (Included p) lawful =
    five_plain (codes "inclusion") (codes "index " ++ number_text p.index) (codes "size " ++ number_text p.size) (codes "leaf " ++ base64_text p.leaf)
    (codes "root " ++ base64_text p.root) (map base64_text p.proof) (no_newline (codes "inclusion") (word_plain (codes "inclusion") refl))
    (number_line (codes "index ") p.index refl lawful.index) (number_line (codes "size ") p.size refl lawful.size)
    (hash_line (codes "leaf ") p.leaf refl lawful.leaf) (hash_line (codes "root ") p.root refl lawful.root) (hash_lines p.proof lawful.proof)
proof_plain (Consistent p) lawful =
    five_plain (codes "consistency") (codes "old " ++ number_text p.old) (codes "oldroot " ++ base64_text p.old_root) (codes "size " ++ number_text p.size)
    (codes "root " ++ base64_text p.root) (map base64_text p.proof) (no_newline (codes "consistency") (word_plain (codes "consistency") refl))
    (number_line (codes "old ") p.old refl lawful.old) (hash_line (codes "oldroot ") p.old_root refl lawful.old_root)
    (number_line (codes "size ") p.size refl lawful.size) (hash_line (codes "root ") p.root refl lawful.root) (hash_lines p.proof lawful.proof)

-- the entries of a proof's text are its lines
pub entries_of_proof : (p : Proof) (text : List ℕ) → IsProof p → text ≡ proof_text p → entries_of text ≡ proof_lines p
entries_of_proof p text lawful e = ap entries_of e ∙ entries_of_lines (proof_lines p) (proof_plain p lawful)
