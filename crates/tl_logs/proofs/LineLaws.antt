-- Laws of one line.
use Rattle.std.proofs.Common.{◌≡◌, ◌≢◌, ℕ, List, ◌∷◌, ◌++◌, refl, sym, ap, ◌∙◌, subst, arith, Option, Some, Bor, Result, Ok, Err, inl, inr}
use Rattle.std.specs.Prelude.{MatchOption, IsUtf8}
use Rattle.std.proofs.lemmas.List.Elements.{All-get_or}
use Rattle.std.proofs.lemmas.Str.Pattern.{IsSplitOnceResult, split_after, split_parts}
use Rattle.tl_note.specs.Key.{IsKeyName}
use Rattle.tl_note.proofs.OneNote.{name_no_space, IsNoSpace}
use Rattle.tl_key.specs.NoteKey.{note_kind}
use Rattle.tl_key.specs.KeyText.{IsVerifierText}
use Rattle.tl_logs.specs.LogsFile.{IsPassedOver, LogKey}
use Rattle.tl_logs.specs.declared.line.KeyLine.{KeyLine}
use Rattle.tl_logs.specs.declared.line.LineFault.{LineFault}
use Rattle.tl_logs.specs.declared.line.LineFault.TheVariants.{Malformed, Twice, OutOfMemory}
use Rattle.tl_logs.specs.Inner.Lines.{IsAlone, IsBehind, ReadsAlone, ReadsBehind, ReadsLine, ReadsNamed, ReadsText, given_by}
use Rattle.tl_logs.specs.Inner.Listing.{IsUnder, ReadsUnder}

-- a key alone isn't read
pub alone_refused : (A : Type 0) (text : List ℕ) (fault : LineFault) → ReadsText text (Err fault) → ReadsAlone {A = A} text (Err fault)
alone_refused A text Malformed none = λ k is. none k.key is.0
alone_refused A text Twice none = none
alone_refused A text OutOfMemory (k, is) = (record { origin = k.name; key = k }, (is, refl))

-- what is before and after the space that follows a log's name
pub name_parts : (text : List ℕ) (r : Option (Bor (List ℕ) × Bor (List ℕ))) (k : LogKey) (is : IsBehind text k) → IsSplitOnceResult 32 text r
    → MatchOption r ⊥ (λ x. (x.0.now ≡ k.origin) × (x.1.now ≡ is.0))
name_parts text r k (key, lawful, is, e) split =
    split_after 32 text k.origin key r split (omega arith) e (λ i lt. All-get_or IsNoSpace k.origin i 0 lt (name_no_space k.origin lawful))

-- a key of a log with a name isn't read
pub under_refused : (A : Type 0) (name text : List ℕ) (fault : LineFault) → ReadsText text (Err fault) → ReadsUnder {A = A} name text (Err fault)
under_refused A name text Malformed none = λ k is. none k.key is.0
under_refused A name text Twice none = none
under_refused A name text OutOfMemory (k, is) = (record { origin = name; key = k }, (is, refl))

-- a key after a name is one of the log with that name
under_behind : (text : List ℕ) (name key : Bor (List ℕ)) (k : LogKey) → IsSplitOnceResult 32 text (Some (name, key)) → IsKeyName name.now → IsUnder name.now key.now k → IsBehind text k
under_behind text name key k split lawful (is, same) =
    let parts = split_parts 32 text (Some (name, key)) split (omega arith) in
    (key.now, subst IsKeyName (sym same) lawful, is, parts.0 ∙ ap (λ (o : List ℕ). o ++ 32 ∷ key.now) (sym same))

pub behind : (A : Type 0) (text : List ℕ) (name key : Bor (List ℕ)) (r : Result (KeyLine A) LineFault) → IsSplitOnceResult 32 text (Some (name, key)) → IsKeyName name.now
    → ReadsUnder {A = A} name.now key.now r → ReadsBehind {A = A} text r
behind A text name key (Ok l) split lawful is = under_behind text name key (given_by l) split lawful is
behind A text name key (Err Malformed) split lawful none = λ k is.
    let parts = name_parts text (Some (name, key)) k is split in
    none k (subst (λ (t : List ℕ). IsVerifierText note_kind t k.key) (sym parts.1) is.2, sym parts.0)
behind A text name key (Err Twice) split lawful none = none
behind A text name key (Err OutOfMemory) split lawful (k, is) = (k, under_behind text name key k split lawful is)

-- a text names no key, neither alone nor after a name
pub named_refused : (A : Type 0) (words : List ℕ) (fault : LineFault) → ((k : LogKey) → ¬ (IsAlone words k)) → ReadsBehind {A = A} words (Err fault) → ReadsNamed {A = A} words (Err fault)
named_refused A words Malformed alone none = λ k named. elim named [ inl behind ↦ none k behind | inr one ↦ alone k one ]
named_refused A words Twice alone none = none
named_refused A words OutOfMemory alone (k, is) = (k, inl is)

pub named : (A : Type 0) (words : List ℕ) (r : Result (KeyLine A) LineFault) → ((k : LogKey) → ¬ (IsAlone words k)) → ReadsBehind {A = A} words r → ReadsNamed {A = A} words r
named A words (Ok l) alone is = inl is
named A words (Err fault) alone is = named_refused A words fault alone is

-- or it isn't read, though it is one alone
pub alone_named : (A : Type 0) (words : List ℕ) (r : Result (KeyLine A) LineFault) → r ≢ Err Malformed → ReadsAlone {A = A} words r → ReadsNamed {A = A} words r
alone_named A words (Ok l) other is = inr is
alone_named A words (Err Malformed) other is = absurd (other refl)
alone_named A words (Err Twice) other is = is
alone_named A words (Err OutOfMemory) other (k, is) = (k, inr is)

-- a line isn't read
pub line_refused : (A : Type 0) (words : List ℕ) (fault : LineFault) → IsUtf8 words → ¬ (IsPassedOver words) → ReadsNamed {A = A} words (Err fault) → ReadsLine {A = A} words (Err fault)
line_refused A words Malformed utf8 taken none = record { taken = taken; none = λ k is. none k is.named }
line_refused A words Twice utf8 taken none = none
line_refused A words OutOfMemory utf8 taken (k, is) = (k, record { utf8 = utf8; taken = taken; named = is })
