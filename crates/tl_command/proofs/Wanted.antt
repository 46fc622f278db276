-- From the resource asked for to its path.
use Rattle.std.proofs.Common.{◌≡◌, ℕ, ◌+◌, ◌*◌, ◌^◌, ◌<◌, [], ◌∷◌, refl, Bool, true, false, List, length, sym, ap, subst, ◌∙◌, All, ◌≤◌, get_or, inl, inr, ◌⊎◌, ◌↔◌, IsTrue, arith}
use Rattle.std.specs.Prelude.{Contains, None, Some, Option, Result, Ok, Err, IfOk, IfErr}
use Rattle.std.specs.declared.vec.Vec.{Vec}
use Rattle.std.proofs.lemmas.Bool.{true≢false}
use Rattle.std.proofs.lemmas.List.{get_or_default}
use Rattle.std.proofs.lemmas.List.Elements.{Contains-append_right}
use Rattle.tl_note.specs.Key.{IsKeyName}
use Rattle.tl_tile.specs.declared.resource.Resource.{Resource}
use Rattle.tl_tile.specs.declared.resource.Resource.TheVariants as resource
use Rattle.tl_tile.specs.declared.resource.Tile.{Tile}
use Rattle.tl_tile.specs.Needed.{needed_resources}
use Rattle.tl_tile.proofs.Levels.{positive_256}
use Rattle.tl_tile.proofs.OnePath.{only_path}
use Rattle.tl_tile.proofs.TileTexts.{scaled_le}
use Rattle.tl_device.specs.Device.{Passage, IsSteady, IsUnwritten, WrotePart, WroteWhole}
use Rattle.tl_command.specs.Lines.{entries_of, first_too_long}
use Rattle.tl_run.specs.Run.{Output, Prints, PrintsRefusal, Fails, Runs, CameOf, IsAsking, Wrote, WroteSome, most_input}
use Rattle.tl_command.specs.Entries.{ReadEntries}
use Rattle.tl_run.specs.declared.fault.RunFault.{RunFault}
use Rattle.tl_run.specs.declared.fault.RunFault.TheVariants as fault
use Rattle.tl_command.proofs.Asking.{gave_entry, none_too_long}
use Rattle.tl_command.proofs.LinesLemmas.{length-entries_of, entries_of_nothing}
use Rattle.tl_run.specs.Signing.{LogKey, checkpoint_note}
use Rattle.tl_command.specs.Mirror.{mirrored, resource_text, listing_text}
use Rattle.tl_command.specs.Build.{IsPrinted, IsMissing, BuildComes, IsLawfulPath, RunsBuild}
use Rattle.sha2.specs.Sha256.{sha256}
use Rattle.tl_hash.specs.Tree.{tree_hash}
use Rattle.tl_tile.specs.RightEdge.{EdgeContents, IsEdgeOf}
use Rattle.tl_command.specs.Inner.BundleLengths.{AreBundleLengths}
use Rattle.tl_command.specs.Inner.Measuring.{ReadMeasured}
use Rattle.tl_command.specs.Inner.Growing.{ReadsEdge}
use Rattle.tl_command.specs.Inner.Steps.{IsAsked, IsServed, IsShown, AnswersWanted, WantedComes}
use Rattle.tl_command.proofs.NeededParts.{LiesIn, lies, lawful}

-- a list has each of its elements
pub has_all : {X : Type 0} (xs ys : List X) → xs ≡ ys → All (Contains ys) xs
has_all xs ys same = subst (λ (t : List _). All (Contains t) xs) same (λ k d lt. (k, lt, get_or_default xs k (get_or xs k d) d lt))

-- whether the test accepts a resource says whether the log has it
pub served : (shown : List Resource) (n : ℕ) (wanted : Option Resource) (b : Bool) → shown ≡ mirrored n → IsTrue b ↔ IsServed shown wanted → b ≡ true
    → IsServed (mirrored n) wanted
served shown n wanted b same told passed = subst (λ (t : List Resource). IsServed t wanted) same (told.0 passed)

-- a resource that is asked for and is there is one of the log, and lies in it
pub wanted_served : (shown : List Resource) (n : ℕ) (wanted : Option Resource) (b : Bool) (r : Resource) → shown ≡ mirrored n → IsTrue b ↔ IsServed shown wanted → b ≡ true
    → wanted ≡ Some r → Contains (mirrored n) r
wanted_served shown n wanted b r same told passed is = subst (IsServed (mirrored n)) is (served shown n wanted b same told passed)

pub not_served : (shown : List Resource) (n : ℕ) (wanted : Option Resource) (b : Bool) → shown ≡ mirrored n → IsTrue b ↔ IsServed shown wanted → b ≡ false
    → ¬ (IsServed (mirrored n) wanted)
not_served shown n wanted b same told failed = λ has.
    let holds : IsTrue b = told.1 (subst (λ (t : List Resource). IsServed t wanted) (sym same) has) in
    absurd (true≢false (sym holds ∙ failed))

asked_shown : (note : List ℕ) (entries : List (List ℕ)) (get : Option (List ℕ)) (wanted : Option Resource) (text : List ℕ)
    → IsAsked get wanted → IsShown note entries wanted text → IsPrinted note entries get text
asked_shown note entries None None text asked shown = shown
asked_shown note entries None (Some r) text asked shown = absurd asked
asked_shown note entries (Some path) None text asked shown = absurd asked
asked_shown note entries (Some path) (Some r) text asked shown = record { found = r; served = shown.0; named = asked.1; spelled = shown.1 }

asked_missing : (size : ℕ) (get : Option (List ℕ)) (wanted : Option Resource) → size < 2 ^ 32
    → IsAsked get wanted → ¬ (IsServed (mirrored size) wanted) → IsMissing size get
asked_missing size None None small asked absent = absurd (absent tt)
asked_missing size None (Some r) small asked absent = absurd asked
asked_missing size (Some path) None small asked absent = absurd asked
asked_missing size (Some path) (Some r) small asked absent = λ other has named.
    let one : Some r ≡ Some other = only_path path (Some r) asked tt other (lawful size other (lies size other small has)) named in
    let same : other ≡ r = cc in
    absurd (absent (subst (λ (x : Resource). Contains (mirrored size) x) same has))

asked_lawful : (get : Option (List ℕ)) (wanted : Option Resource) → IsAsked get wanted → IsLawfulPath get
asked_lawful None None asked = tt
asked_lawful None (Some r) asked = absurd asked
asked_lawful (Some path) None asked = absurd asked
asked_lawful (Some path) (Some r) asked = (r, asked.0, asked.1)

-- the output for an input if a resource is asked for is the output if its path is asked for
wanted_comes : (key : LogKey) (get : Option (List ℕ)) (wanted : Option Resource) (input : List ℕ) (outcome : Output) → length input ≤ most_input
    → IsAsked get wanted → WantedComes key wanted input outcome → BuildComes key get input outcome
wanted_comes key get wanted input (Prints text) fits asked comes =
    (comes.0, asked_shown (checkpoint_note key (entries_of input)) (entries_of input) get wanted text asked comes.1)
wanted_comes key get wanted input (PrintsRefusal text) fits asked comes = absurd comes
wanted_comes key get wanted input (Fails fault.NotThere) fits asked comes =
    (comes.0, asked_missing (length (entries_of input)) get wanted (omega (arith, fits, length-entries_of input)) asked comes.1)
wanted_comes key get wanted input (Fails (fault.EntryTooLong place)) fits asked comes = comes
wanted_comes key get wanted input (Fails fault.Refused) fits asked comes = absurd comes
wanted_comes key get wanted input (Fails fault.Read) fits asked comes = absurd comes
wanted_comes key get wanted input (Fails fault.Write) fits asked comes = absurd comes
wanted_comes key get wanted input (Fails fault.TooLarge) fits asked comes = absurd comes
wanted_comes key get wanted input (Fails fault.BadOrigin) fits asked comes = absurd comes
wanted_comes key get wanted input (Fails fault.BadIndex) fits asked comes = absurd comes
wanted_comes key get wanted input (Fails fault.BadOld) fits asked comes = absurd comes
wanted_comes key get wanted input (Fails fault.BadPath) fits asked comes = absurd comes
wanted_comes key get wanted input (Fails fault.Malformed) fits asked comes = absurd comes
wanted_comes key get wanted input (Fails (fault.Chain place)) fits asked comes = absurd comes
wanted_comes key get wanted input (Fails fault.Sign) fits asked comes = absurd comes
wanted_comes key get wanted input (Fails fault.Operator) fits asked comes = absurd comes
wanted_comes key get wanted input (Fails fault.Listen) fits asked comes = absurd comes
wanted_comes key get wanted input (Fails fault.Accept) fits asked comes = absurd comes
wanted_comes key get wanted input (Fails (fault.Device place why)) fits asked comes = absurd comes
wanted_comes key get wanted input (Fails fault.BadName) fits asked comes = absurd comes
wanted_comes key get wanted input (Fails fault.BadKey) fits asked comes = absurd comes
wanted_comes key get wanted input (Fails fault.BadKeyFile) fits asked comes = absurd comes
wanted_comes key get wanted input (Fails (fault.NothingThere _)) fits asked comes = absurd comes
wanted_comes key get wanted input (Fails (fault.BadCheckpoint place)) fits asked comes = absurd comes
wanted_comes key get wanted input (Fails (fault.WrongSignature place)) fits asked comes = absurd comes
wanted_comes key get wanted input (Fails fault.Unverified) fits asked comes = absurd comes
wanted_comes key get wanted input (Fails fault.OutOfMemory) fits asked comes = absurd comes

came : (key : LogKey) (get : Option (List ℕ)) (wanted : Option Resource) (i : Passage) (outcome : Output) → IsAsked get wanted
    → CameOf (WantedComes key wanted) i outcome → CameOf (BuildComes key get) i outcome
came key get wanted i outcome asked is =
    record { input = is.input; whole = is.whole; so = wanted_comes key get wanted is.input outcome is.whole.fits asked is.so }

never : (key : LogKey) (get : Option (List ℕ)) (wanted : Option Resource) (i o : Passage) (outcome : Output) → IsAsked get wanted
    → CameOf (WantedComes key wanted) i outcome × IsUnwritten o → CameOf (BuildComes key get) i outcome × IsUnwritten o
never key get wanted i o outcome asked is = (came key get wanted i outcome asked is.0, is.1)

asking : (key : LogKey) (get : Option (List ℕ)) (wanted : Option Resource) (i : Passage) → IsAsked get wanted → IsAsking (WantedComes key wanted) i → IsAsking (BuildComes key get) i
asking key get wanted i asked asks =
    elim asks as (λ _. IsAsking (BuildComes key get) i) [
      | inl gave ↦ inl gave
      | inr (text, comes) ↦ inr (text, wanted_comes key get wanted [] (Prints text) (omega arith) asked comes)
    ]

-- a log of no entries has no tile and no bundle
pub no_tile : (t : Tile) → ¬ (Contains (mirrored 0) (resource.Tile t))
no_tile t = λ has.
    let found : LiesIn 0 (resource.Tile t) = lies 0 (resource.Tile t) (omega arith) has in
    let some : 1 * 256 ^ t.level ≤ (t.index * 256 + t.width) * 256 ^ t.level = scaled_le 1 (t.index * 256 + t.width) (256 ^ t.level) (omega (arith, found.0.wide)) in
    absurd (omega (arith, found.1, some, positive_256 t.level))

pub no_bundle : (index width : ℕ) → ¬ (Contains (mirrored 0) (resource.Entries index width))
no_bundle index width = λ has.
    let found : LiesIn 0 (resource.Entries index width) = lies 0 (resource.Entries index width) (omega arith) has in
    absurd (omega (arith, found.1, found.3))

pub has_checkpoint : Contains (mirrored 0) resource.Checkpoint
has_checkpoint = Contains-append_right (needed_resources 0) (resource.Checkpoint ∷ []) resource.Checkpoint (0, omega arith, refl)

-- something is printed for no entries if the resource asked for is there
shown_of_none : (note : List ℕ) (entries : List (List ℕ)) (wanted : Option Resource) → entries ≡ [] → IsServed (mirrored 0) wanted → (text : List ℕ) × IsShown note entries wanted text
shown_of_none note entries None none served = (listing_text note entries (mirrored (length entries)), refl)
shown_of_none note entries (Some r) none served = (resource_text note entries r, (subst (λ (es : List (List ℕ)). Contains (mirrored (length es)) r) (sym none) served, refl))

pub asks_for : (key : LogKey) (wanted : Option Resource) (i : Passage) (entries : List (List ℕ)) → ReadEntries i most_input entries → (0 < length entries) ⊎ IsServed (mirrored 0) wanted
    → IsAsking (WantedComes key wanted) i
asks_for key wanted i entries read either =
    elim either as (λ _. IsAsking (WantedComes key wanted) i) [
      | inl some ↦ inl (gave_entry i most_input entries read some)
      | inr served ↦
          let shown = shown_of_none (checkpoint_note key (entries_of [])) (entries_of []) wanted (entries_of_nothing [] refl) served in
          inr (shown.0, (none_too_long, shown.1))
    ]

-- a run for the resource asked for is a run for its path
pub runs_build : (key : LogKey) (get : Option (List ℕ)) (wanted : Option Resource) (i o : Passage) (r : Result (Unit {0}) RunFault) → IsKeyName key.name → IsAsked get wanted
    → Runs (WantedComes key wanted) i o r → RunsBuild key get i o r
runs_build key get wanted i o (Ok done) named asked runs = (named, asked_lawful get wanted asked, record { text = runs.text; came = came key get wanted i (Prints runs.text) asked runs.came; written = runs.written })
runs_build key get wanted i o (Err fault.Refused) named asked runs = (named, asked_lawful get wanted asked, record { text = runs.text; came = came key get wanted i (PrintsRefusal runs.text) asked runs.came; written = runs.written })
runs_build key get wanted i o (Err fault.Read) named asked runs = (named, asked_lawful get wanted asked, runs)
runs_build key get wanted i o (Err fault.Write) named asked runs =
    let either = elim runs.came as (λ _. CameOf (BuildComes key get) i (Prints runs.text) ⊎ CameOf (BuildComes key get) i (PrintsRefusal runs.text)) [
      | inl printed ↦ inl (came key get wanted i (Prints runs.text) asked printed)
      | inr refused ↦ inr (came key get wanted i (PrintsRefusal runs.text) asked refused)
    ] in
    (named, asked_lawful get wanted asked, record { text = runs.text; came = either; part = runs.part })
runs_build key get wanted i o (Err fault.TooLarge) named asked runs = (named, asked_lawful get wanted asked, runs)
runs_build key get wanted i o (Err fault.OutOfMemory) named asked runs = (named, asked_lawful get wanted asked, (runs.0, runs.1, asking key get wanted i asked runs.2))
runs_build key get wanted i o (Err fault.BadOrigin) named asked runs = absurd runs.0.so
runs_build key get wanted i o (Err fault.BadPath) named asked runs = absurd runs.0.so
runs_build key get wanted i o (Err (fault.EntryTooLong place)) named asked runs = (named, asked_lawful get wanted asked, never key get wanted i o (Fails (fault.EntryTooLong place)) asked runs)
runs_build key get wanted i o (Err fault.BadIndex) named asked runs = (named, asked_lawful get wanted asked, never key get wanted i o (Fails fault.BadIndex) asked runs)
runs_build key get wanted i o (Err fault.BadOld) named asked runs = (named, asked_lawful get wanted asked, never key get wanted i o (Fails fault.BadOld) asked runs)
runs_build key get wanted i o (Err fault.NotThere) named asked runs = (named, asked_lawful get wanted asked, never key get wanted i o (Fails fault.NotThere) asked runs)
runs_build key get wanted i o (Err fault.Malformed) named asked runs = (named, asked_lawful get wanted asked, never key get wanted i o (Fails fault.Malformed) asked runs)
runs_build key get wanted i o (Err (fault.Chain place)) named asked runs = (named, asked_lawful get wanted asked, never key get wanted i o (Fails (fault.Chain place)) asked runs)
runs_build key get wanted i o (Err fault.Sign) named asked runs = (named, asked_lawful get wanted asked, never key get wanted i o (Fails fault.Sign) asked runs)
runs_build key get wanted i o (Err fault.Operator) named asked runs = (named, asked_lawful get wanted asked, never key get wanted i o (Fails fault.Operator) asked runs)
runs_build key get wanted i o (Err fault.Listen) named asked runs = (named, asked_lawful get wanted asked, never key get wanted i o (Fails fault.Listen) asked runs)
runs_build key get wanted i o (Err fault.Accept) named asked runs = (named, asked_lawful get wanted asked, never key get wanted i o (Fails fault.Accept) asked runs)
runs_build key get wanted i o (Err (fault.Device place why)) named asked runs = (named, asked_lawful get wanted asked, never key get wanted i o (Fails (fault.Device place why)) asked runs)
runs_build key get wanted i o (Err fault.BadName) named asked runs = (named, asked_lawful get wanted asked, never key get wanted i o (Fails fault.BadName) asked runs)
runs_build key get wanted i o (Err fault.BadKey) named asked runs = (named, asked_lawful get wanted asked, never key get wanted i o (Fails fault.BadKey) asked runs)
runs_build key get wanted i o (Err fault.BadKeyFile) named asked runs = (named, asked_lawful get wanted asked, never key get wanted i o (Fails fault.BadKeyFile) asked runs)
runs_build key get wanted i o (Err (fault.NothingThere place)) named asked runs = (named, asked_lawful get wanted asked, never key get wanted i o (Fails (fault.NothingThere place)) asked runs)
runs_build key get wanted i o (Err (fault.BadCheckpoint place)) named asked runs = (named, asked_lawful get wanted asked, never key get wanted i o (Fails (fault.BadCheckpoint place)) asked runs)
runs_build key get wanted i o (Err (fault.WrongSignature place)) named asked runs = (named, asked_lawful get wanted asked, never key get wanted i o (Fails (fault.WrongSignature place)) asked runs)
runs_build key get wanted i o (Err fault.Unverified) named asked runs = (named, asked_lawful get wanted asked, never key get wanted i o (Fails fault.Unverified) asked runs)

-- the bytes of the resource asked for are the answer
pub answers_some : (A : Type 0) (note n : List ℕ) (entries : List (List ℕ)) (size : ℕ) (wanted : Option Resource) (r : Resource) (result : Result (Vec ℕ A) RunFault) → wanted ≡ Some r
    → n ≡ note → length entries ≡ size → Contains (mirrored size) r → IfOk result (λ bytes. bytes.items ≡ resource_text n entries r) → IfErr result (λ f. f ≡ fault.OutOfMemory)
    → AnswersWanted note entries wanted result
answers_some A note n entries size wanted r (Ok text) is same count has shown memory =
    let there : Contains (mirrored (length entries)) r = subst (λ (k : ℕ). Contains (mirrored k) r) (sym count) has in
    let spelled : text.items ≡ resource_text note entries r = subst (λ (t : List ℕ). text.items ≡ resource_text t entries r) same shown in
    subst (λ (w : Option Resource). IsShown note entries w text.items) (sym is) (there, spelled)
answers_some A note n entries size wanted r (Err f) is same count has shown memory = subst (λ (e : RunFault). AnswersWanted {A = A} note entries wanted (Err e)) (sym memory) tt

-- the log doesn't have the resource asked for
pub not_there : (key : LogKey) (wanted : Option Resource) (i o : Passage) (entries : List (List ℕ)) → ReadEntries i most_input entries → IsUnwritten o
    → ¬ (IsServed (mirrored (length entries)) wanted) → Runs (WantedComes key wanted) i o (Err fault.NotThere)
not_there key wanted i o entries read none given =
    let short : first_too_long (entries_of read.input) ≡ None = sym (ap first_too_long read.lines) ∙ read.short in
    let absent : ¬ (IsServed (mirrored (length (entries_of read.input))) wanted) = subst (λ (es : List (List ℕ)). ¬ (IsServed (mirrored (length es)) wanted)) read.lines given in
    (record { input = read.input; whole = read.whole; so = (short, absent) }, none)

-- if there is no answer, the run has failed
pub answer_fails : (A : Type 0) (key : LogKey) (wanted : Option Resource) (i o : Passage) (f : RunFault) (entries : List (List ℕ)) → ReadEntries i most_input entries → IsUnwritten o
    → IsAsking (WantedComes key wanted) i
    → AnswersWanted {A = A} (checkpoint_note key entries) entries wanted (Err f) → Runs (WantedComes key wanted) i o (Err f)
answer_fails A key wanted i o fault.NotThere entries read none asks given = not_there key wanted i o entries read none given
answer_fails A key wanted i o fault.OutOfMemory entries read none asks given = (read.whole.steady, none, asks)
answer_fails A key wanted i o fault.Refused entries read none asks given = absurd given
answer_fails A key wanted i o fault.Read entries read none asks given = absurd given
answer_fails A key wanted i o fault.Write entries read none asks given = absurd given
answer_fails A key wanted i o fault.TooLarge entries read none asks given = absurd given
answer_fails A key wanted i o (fault.EntryTooLong place) entries read none asks given = absurd given
answer_fails A key wanted i o fault.BadOrigin entries read none asks given = absurd given
answer_fails A key wanted i o fault.BadIndex entries read none asks given = absurd given
answer_fails A key wanted i o fault.BadOld entries read none asks given = absurd given
answer_fails A key wanted i o fault.BadPath entries read none asks given = absurd given
answer_fails A key wanted i o fault.Malformed entries read none asks given = absurd given
answer_fails A key wanted i o (fault.Chain place) entries read none asks given = absurd given
answer_fails A key wanted i o fault.Sign entries read none asks given = absurd given
answer_fails A key wanted i o fault.Operator entries read none asks given = absurd given
answer_fails A key wanted i o fault.Listen entries read none asks given = absurd given
answer_fails A key wanted i o fault.Accept entries read none asks given = absurd given
answer_fails A key wanted i o (fault.Device place why) entries read none asks given = absurd given
answer_fails A key wanted i o fault.BadName entries read none asks given = absurd given
answer_fails A key wanted i o fault.BadKey entries read none asks given = absurd given
answer_fails A key wanted i o fault.BadKeyFile entries read none asks given = absurd given
answer_fails A key wanted i o (fault.NothingThere _) entries read none asks given = absurd given
answer_fails A key wanted i o (fault.BadCheckpoint place) entries read none asks given = absurd given
answer_fails A key wanted i o (fault.WrongSignature place) entries read none asks given = absurd given
answer_fails A key wanted i o fault.Unverified entries read none asks given = absurd given

-- the listing is printed for any input
asks_to_list : (key : LogKey) (i : Passage) → IsAsking (WantedComes key None) i
asks_to_list key i = inr (listing_text (checkpoint_note key (entries_of [])) (entries_of []) (mirrored (length (entries_of []))), (none_too_long, refl))

-- if the input's edge wasn't read, the run has failed
pub list_fails : (key : LogKey) (i o : Passage) (f : RunFault) → IsUnwritten o → ReadsEdge i (Err f) → Runs (WantedComes key None) i o (Err f)
list_fails key i o fault.Refused none reads = absurd reads
list_fails key i o fault.Read none reads = (reads, none)
list_fails key i o fault.Write none reads = absurd reads
list_fails key i o fault.TooLarge none reads = (reads, none)
list_fails key i o (fault.EntryTooLong place) none reads = (record { input = reads.input; whole = reads.whole; so = reads.first }, none)
list_fails key i o fault.BadOrigin none reads = absurd reads
list_fails key i o fault.BadIndex none reads = absurd reads
list_fails key i o fault.BadOld none reads = absurd reads
list_fails key i o fault.BadPath none reads = absurd reads
list_fails key i o fault.NotThere none reads = absurd reads
list_fails key i o fault.Malformed none reads = absurd reads
list_fails key i o (fault.Chain place) none reads = absurd reads
list_fails key i o fault.Sign none reads = absurd reads
list_fails key i o fault.Operator none reads = absurd reads
list_fails key i o fault.Listen none reads = absurd reads
list_fails key i o fault.Accept none reads = absurd reads
list_fails key i o (fault.Device place why) none reads = absurd reads
list_fails key i o fault.OutOfMemory none reads = (reads, none, asks_to_list key i)
list_fails key i o fault.BadName none reads = absurd reads
list_fails key i o fault.BadKey none reads = absurd reads
list_fails key i o fault.BadKeyFile none reads = absurd reads
list_fails key i o (fault.NothingThere _) none reads = absurd reads
list_fails key i o (fault.BadCheckpoint place) none reads = absurd reads
list_fails key i o (fault.WrongSignature place) none reads = absurd reads
list_fails key i o fault.Unverified none reads = absurd reads

-- the run has also failed if memory ran out for the listing
pub list_refused : (key : LogKey) (i o : Passage) (f : RunFault) → IsUnwritten o → IsSteady i → f ≡ fault.OutOfMemory → Runs (WantedComes key None) i o (Err f)
list_refused key i o f none steady is = subst (λ (e : RunFault). Runs (WantedComes key None) i o (Err e)) (sym is) (steady, none, asks_to_list key i)

-- the listing of the log of an input's lines, whose edge and lengths were read
pub list_came : (key : LogKey) (i : Passage) (edge : EdgeContents) (lengths sizes : List ℕ) (size : ℕ) (root text bytes : List ℕ) → ReadMeasured i edge sizes → lengths ≡ sizes → size ≡ edge.size
    → ((entries : List (List ℕ)) → IsEdgeOf edge sha256 entries → root ≡ tree_hash sha256 entries)
    → ((entries : List (List ℕ)) → length entries ≡ size → tree_hash sha256 entries ≡ root → AreBundleLengths lengths entries → bytes ≡ listing_text (checkpoint_note key entries) entries (mirrored size))
    → text ≡ bytes → CameOf (WantedComes key None) i (Prints text)
list_came key i edge lengths sizes size root text bytes read measured counted hashed is same =
    let entries : List (List ℕ) = entries_of read.input in
    let count : length entries ≡ size = read.stands.0 ∙ sym counted in
    let are : AreBundleLengths lengths entries = subst (λ (ns : List ℕ). AreBundleLengths ns entries) (sym measured) read.lengths in
    record {
      input = read.input;
      whole = read.whole;
      so = (read.short, same ∙ is entries count (sym (hashed entries read.stands)) are ∙ ap (λ (n : ℕ). listing_text (checkpoint_note key entries) entries (mirrored n)) (sym count));
    }

-- the output for an input for which this answer is shown
answered : (key : LogKey) (wanted : Option Resource) (i : Passage) (entries : List (List ℕ)) (text bytes : List ℕ) → ReadEntries i most_input entries → IsShown (checkpoint_note key entries) entries wanted bytes → text ≡ bytes
    → CameOf (WantedComes key wanted) i (Prints text)
answered key wanted i entries text bytes read shown same = record {
  input = read.input;
  whole = read.whole;
  so = (
    sym (ap first_too_long read.lines) ∙ read.short,
    subst (λ (es : List (List ℕ)). IsShown (checkpoint_note key es) es wanted text) read.lines (subst (λ (t : List ℕ). IsShown (checkpoint_note key entries) entries wanted t) (sym same) shown),
  );
}

pub answer_printed : (key : LogKey) (wanted : Option Resource) (i o : Passage) (entries : List (List ℕ)) (text bytes : List ℕ) → ReadEntries i most_input entries → IsShown (checkpoint_note key entries) entries wanted bytes → text ≡ bytes
    → WroteWhole o text → Wrote (WantedComes key wanted) Prints i o
answer_printed key wanted i o entries text bytes read shown same wrote = record { text = text; came = answered key wanted i entries text bytes read shown same; written = wrote }

pub answer_cut : (key : LogKey) (wanted : Option Resource) (i o : Passage) (entries : List (List ℕ)) (text bytes : List ℕ) → ReadEntries i most_input entries → IsShown (checkpoint_note key entries) entries wanted bytes → text ≡ bytes
    → WrotePart o text → WroteSome (WantedComes key wanted) i o
answer_cut key wanted i o entries text bytes read shown same part = record { text = text; came = inl (answered key wanted i entries text bytes read shown same); part = part }
