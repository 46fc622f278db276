-- Reading a policy: its lines, one after another (C2SP tlog-policy). Each line adds to what the lines before it say,
-- or is refused.
use Rattle.std.specs.Prelude.{◌≡◌, ℕ, ◌+◌, ◌⊎◌, ◌||◌, ◌==◌, Bool, true, false, List, [], ◌∷◌, ◌++◌, length, codes, bytes_eq, nat_lt, is_some, position, slice_index, MatchBool, MatchResult, MatchOption, if◌then◌else◌, Option, None, Some, Result, Ok, Err}
use Rattle.std.specs.List.{list_any}
use Rattle.std.specs.Option.{option_map, option_map_or, option_or}
use Rattle.tl_hash.specs.Bytes.{Bytes}
use Rattle.tl_key.specs.KeyText.{IsVerifierText}
use Rattle.tl_key.specs.NoteKey.{PublicKey, note_kind, cosignature_kind}
use Rattle.tl_key.specs.Reading.{IsNoVerifierText}
use Rattle.tl_policy.specs.declared.policy.Member.{Member}
use Rattle.tl_policy.specs.declared.policy.Member.TheVariants.{Witness, Group}
use Rattle.tl_policy.specs.declared.fault.PolicyFault.{PolicyFault}
use Rattle.tl_policy.specs.declared.fault.PolicyFault.TheVariants.{Malformed, TwiceNamed, BadKey, TwiceKeyed, TooManyGroups, UnknownMember, TwiceMember, BadThreshold, SecondQuorum, NoLog, NoQuorum, OutOfMemory}
use Rattle.tl_policy.specs.Terms.{Terms}
use Rattle.tl_policy.specs.PolicyText.{IsThreshold, key_words, lines_of, words_of}

-- ---- what lines say so far

-- the terms, and whether a line was a quorum
pub record Draft : Type 0 where
  pub terms : Terms
  pub has_quorum : Bool

abbrev pub first_draft : Draft
first_draft = record { terms = record { logs = []; witnesses = []; groups = []; quorum = None }; has_quorum = false }

-- ---- names, keys and members

-- the witness of this name, or the group
abbrev pub member_named : Terms → Bytes → Option Member
member_named p name =
    option_or (option_map (λ place. Witness place) (position (λ w. bytes_eq w.name name) p.witnesses))
    (option_map (λ place. Group place) (position (λ g. bytes_eq g.name name) p.groups))

-- the name can't be given any more
abbrev pub is_taken : Terms → Bytes → Bool
is_taken p name = bytes_eq name (codes "none") || is_some (member_named p name)

-- a log or a witness has this public key
abbrev pub has_key : Terms → Bytes → Bool
has_key p key = list_any (λ l. bytes_eq l.key.key key) p.logs || list_any (λ w. bytes_eq w.key.key key) p.witnesses

abbrev pub is_same_member : Member → Member → Bool
is_same_member (Witness a) (Witness b) = a == b
is_same_member (Group a) (Group b) = a == b
is_same_member _ _ = false

abbrev pub has_member : Member → List Member → Bool
has_member m members = list_any (is_same_member m) members

-- it is one of these, or stands in a group
abbrev pub is_grouped : Terms → List Member → Member → Bool
is_grouped p members m = has_member m members || list_any (λ g. has_member m g.members) p.groups

-- ---- one line, with its number

-- this comes of it, or memory ran out
abbrev pub Gives : {T : Type 0} → Result T PolicyFault → Result T PolicyFault → Type 0
Gives r wanted = (r ≡ wanted) ⊎ (r ≡ Err OutOfMemory)

-- what comes of an outcome, if it is no fault
abbrev pub on_ok : {T U : Type 0} → (T → U) → Result T PolicyFault → Result U PolicyFault
on_ok f (Ok x) = Ok (f x)
on_ok f (Err fault) = Err fault

-- the key of this kind that a word is the text of, unless an earlier line has it
abbrev pub ReadsKey : ℕ → ℕ → Terms → Bytes → Result PublicKey PolicyFault → Type 0
ReadsKey line kind p word r =
    ((k : PublicKey) × IsVerifierText kind word k × Gives r (if has_key p k.key then Err (TwiceKeyed line) else Ok k))
    ⊎ (IsNoVerifierText kind word × (r ≡ Err (BadKey line)))

-- log VKEY [URL]
abbrev pub ReadsLog : ℕ → Terms → List Bytes → Result Terms PolicyFault → Type 0
ReadsLog line p words r =
    MatchOption (key_words words) (r ≡ Err (Malformed line))
    (λ read. (k : Result PublicKey PolicyFault) × ReadsKey line note_kind p read.0 k × Gives r (on_ok (λ key. record p { logs = p.logs ++ record { key = key; url = read.1 } ∷ [] }) k))

-- witness NAME VKEY [URL]
abbrev pub ReadsWitness : ℕ → Terms → List Bytes → Result Terms PolicyFault → Type 0
ReadsWitness line p [] r = r ≡ Err (Malformed line)
ReadsWitness line p (name ∷ words) r =
    MatchOption (key_words words) (r ≡ Err (Malformed line))
    (λ read. MatchBool (is_taken p name) (r ≡ Err (TwiceNamed line))
    ((k : Result PublicKey PolicyFault) × ReadsKey line cosignature_kind p read.0 k × Gives r (on_ok (λ key. record p { witnesses = p.witnesses ++ record { name = name; key = key; url = read.1 } ∷ [] }) k)))

-- the members of these names, behind those that the line has named before
abbrev pub members_from : ℕ → Terms → List Member → List Bytes → Result (List Member) PolicyFault
members_from line p members [] = Ok members
members_from line p members (name ∷ names) =
    option_map_or (λ m. if is_grouped p members m then Err (TwiceMember line) else members_from line p (members ++ m ∷ []) names)
    (member_named p name) (Err (UnknownMember line))

-- the group of these members, if the word is a threshold for it
abbrev pub EndsGroup : ℕ → Terms → Bytes → Bytes → List Member → Result Terms PolicyFault → Type 0
EndsGroup line p name word members r =
    ((threshold : ℕ) × IsThreshold word (length members) threshold × Gives r (Ok (record p { groups = p.groups ++ record { name = name; threshold = threshold; members = members } ∷ [] })))
    ⊎ (((threshold : ℕ) → ¬ (IsThreshold word (length members) threshold)) × (r ≡ Err (BadThreshold line)))

-- group NAME any|all|K MEMBER..
abbrev pub ReadsGroup : ℕ → Terms → List Bytes → Result Terms PolicyFault → Type 0
ReadsGroup line p (name ∷ word ∷ names) r =
    MatchBool (is_taken p name) (r ≡ Err (TwiceNamed line)) (MatchBool (nat_lt 1023 (length p.groups)) (r ≡ Err (TooManyGroups line))
    ((members : Result (List Member) PolicyFault) × Gives members (members_from line p [] names) × MatchResult members (λ ms. EndsGroup line p name word ms r) (λ fault. r ≡ Err fault)))
ReadsGroup line p _ r = r ≡ Err (Malformed line)

-- nobody, or the member of this name
abbrev pub quorum_of : ℕ → Terms → Bytes → Result (Option Member) PolicyFault
quorum_of line p name =
    if bytes_eq name (codes "none") then Ok None else option_map_or (λ m. Ok (Some m)) (member_named p name) (Err (UnknownMember line))

-- quorum NAME|none
abbrev pub after_quorum : ℕ → Draft → List Bytes → Result Draft PolicyFault
after_quorum line d (name ∷ []) =
    if d.has_quorum then Err (SecondQuorum line)
    else on_ok (λ quorum. record { terms = record d.terms { quorum = quorum }; has_quorum = true }) (quorum_of line d.terms name)
after_quorum line d _ = Err (Malformed line)

-- what it adds to the terms alone
abbrev pub Adds : (List Bytes → Result Terms PolicyFault → Type 0) → Draft → List Bytes → Result Draft PolicyFault → Type 0
Adds Reads d words r = (p : Result Terms PolicyFault) × Reads words p × (r ≡ on_ok (λ terms. record d { terms = terms }) p)

-- by its first word; a line with none, or with one that begins with '#', says nothing
abbrev pub ReadsLine : ℕ → Draft → List Bytes → Result Draft PolicyFault → Type 0
ReadsLine line d [] r = r ≡ Ok d
ReadsLine line d (word ∷ words) r =
    MatchBool (slice_index word 0 == 35) (r ≡ Ok d) (MatchBool (bytes_eq word (codes "log")) (Adds (ReadsLog line d.terms) d words r)
    (MatchBool (bytes_eq word (codes "witness")) (Adds (ReadsWitness line d.terms) d words r)
    (MatchBool (bytes_eq word (codes "group")) (Adds (ReadsGroup line d.terms) d words r)
    (MatchBool (bytes_eq word (codes "quorum")) (r ≡ after_quorum line d words) (r ≡ Err (Malformed line))))))

-- ---- all lines

-- what they say in the end: there are a log and a quorum
abbrev pub ended : Draft → Result Terms PolicyFault
ended d = if length d.terms.logs == 0 then Err NoLog else if d.has_quorum then Ok d.terms else Err NoQuorum

-- lines, of which the first has this number: the first that is refused decides
abbrev pub ReadsLines : ℕ → Draft → List Bytes → Result Terms PolicyFault → Type 0
ReadsLines line d [] r = r ≡ ended d
ReadsLines line d (first ∷ rest) r =
    (next : Result Draft PolicyFault) × ReadsLine line d (words_of first) next × MatchResult next (λ draft. ReadsLines (line + 1) draft rest r) (λ fault. r ≡ Err fault)

-- a policy's text, and what it says
abbrev pub ReadsPolicy : Bytes → Result Terms PolicyFault → Type 0
ReadsPolicy text r = ReadsLines 1 first_draft (lines_of text) r
