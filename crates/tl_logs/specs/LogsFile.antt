-- The file of logs: one line for each key of a log that a witness knows (a format of this project). Keys are written
-- as in C2SP signed-note, "Verifier keys".
use Rattle.std.specs.Prelude.{◌≡◌, ◌≢◌, ℕ, ◌⊎◌, not, List, [], ◌∷◌, ◌++◌, All, map, filter, IsUtf8, bytes_eq}
use Rattle.std.specs.List.{flat_map}
use Rattle.tl_hash.specs.Bytes.{Bytes}
use Rattle.tl_text.specs.Text.{line}
use Rattle.tl_note.specs.Key.{IsKeyName}
use Rattle.tl_key.specs.KeyText.{IsVerifierText}
use Rattle.tl_key.specs.NoteKey.{PublicKey, key_id, note_kind}

-- ---- a line

-- a key, and the log that it belongs to
pub record LogKey : Type 0 where
  pub origin : Bytes
  pub key : PublicKey

-- the line is skipped: it is empty or begins with '#'
abbrev pub IsPassedOver : Bytes → Type 0
IsPassedOver words = (words ≡ []) ⊎ ((rest : Bytes) × (words ≡ 35 ∷ rest))

-- the words are a log's name, a space and a key; or a key alone, whose name is the log's
abbrev pub NamesKey : Bytes → LogKey → Type 0
NamesKey words k =
    ((text : Bytes) × IsKeyName k.origin × IsVerifierText note_kind text k.key × (words ≡ k.origin ++ 32 ∷ text))
    ⊎ (IsVerifierText note_kind words k.key × (k.origin ≡ k.key.name))

-- the line gives a log this key
pub record GivesKey (words : Bytes) (k : LogKey) : Type 0 where
  pub utf8 : IsUtf8 words
  pub taken : ¬ (IsPassedOver words)
  pub named : NamesKey words k

-- the line is not skipped and gives no key
pub record IsNoLine (words : Bytes) : Type 0 where
  pub taken : ¬ (IsPassedOver words)
  pub none : (k : LogKey) → ¬ (GivesKey words k)

-- ---- lines

-- a line, without its newline, and the keys that it gives: none or one
pub record FileLine : Type 0 where
  pub words : Bytes
  pub gives : List LogKey

-- no byte of the words is a newline
abbrev pub IsInOneLine : Bytes → Type 0
IsInOneLine words = All (λ byte. byte ≢ 10) words

-- the line gives one key, or none if it is skipped
pub record IsFileLine (l : FileLine) : Type 0 where
  pub one_line : IsInOneLine l.words
  pub given : (IsPassedOver l.words × (l.gives ≡ [])) ⊎ ((k : LogKey) × GivesKey l.words k × (l.gives ≡ k ∷ []))

-- the lines, one after another
abbrev pub file_text : List FileLine → Bytes
file_text lines = flat_map (λ l. line l.words) lines

-- the keys that the lines give, in order
abbrev pub keys_in : List FileLine → List LogKey
keys_in lines = flat_map (λ l. l.gives) lines

-- the bytes are these lines; the newline of the last one may be missing
pub record IsFileText (bytes : Bytes) (lines : List FileLine) : Type 0 where
  pub each : All IsFileLine lines
  pub spelled : (bytes ≡ file_text lines) ⊎ (line bytes ≡ file_text lines)

-- the bytes are these lines followed by a line with these words, which may be the last and lack its newline
pub record StandsBehind (bytes : Bytes) (lines : List FileLine) (words : Bytes) : Type 0 where
  pub one_line : IsInOneLine words
  pub joined : ((after : Bytes) × (bytes ≡ file_text lines ++ (line words ++ after))) ⊎ (bytes ≡ file_text lines ++ words)

-- ---- logs

-- a log with its keys
pub record Log : Type 0 where
  pub origin : Bytes
  pub keys : List PublicKey

abbrev pub log : Bytes → List PublicKey → Log
log origin keys = record { origin = origin; keys = keys }

-- the list without this origin
abbrev pub without : Bytes → List Bytes → List Bytes
without origin others = filter (λ other. not (bytes_eq origin other)) others

-- the logs' origins in the order of their first keys
abbrev pub origins : List LogKey → List Bytes
origins [] = []
origins (first ∷ keys) = first.origin ∷ without first.origin (origins keys)

-- the keys of one log, in order
abbrev pub keys_of : Bytes → List LogKey → List PublicKey
keys_of origin keys = map (λ k. k.key) (filter (λ k. bytes_eq k.origin origin) keys)

-- each log with its keys
abbrev pub logs : List LogKey → List Log
logs keys = map (λ origin. log origin (keys_of origin keys)) (origins keys)

-- ---- keys that come twice

-- x is in the list
abbrev pub IsAmong : {A : Type 0} → A → List A → Type 0
IsAmong x [] = ⊥
IsAmong x (y ∷ ys) = (y ≡ x) ⊎ IsAmong x ys

-- some element is in the list twice
abbrev pub HasTwice : {A : Type 0} → List A → Type 0
HasTwice [] = ⊥
HasTwice (x ∷ xs) = IsAmong x xs ⊎ HasTwice xs

-- a key's name and identifier
abbrev pub key_name : PublicKey → Bytes × ℕ
key_name k = (k.name, key_id k.name k.kind k.key)

-- no two keys of a log have the same name and identifier
abbrev pub HasEachOnce : Log → Type 0
HasEachOnce known = ¬ (HasTwice (map key_name known.keys))

-- a key with this one's name and identifier is among those of its log
abbrev pub IsKnown : LogKey → List LogKey → Type 0
IsKnown k keys = IsAmong (key_name k.key) (map key_name (keys_of k.origin keys))
