-- What a mark leaves of the files of resources.
use Rattle.std.proofs.Common.{◌≡◌, ◌≢◌, ℕ, true, false, inl, inr, List, [], ◌∷◌, ◌++◌, Some, get_or, sym, ap, subst, ◌∙◌, ◌<◌, ◌^◌, arith}
use Rattle.std.specs.Prelude.{codes, decimal}
use Rattle.std.specs.Str.{IsUtf8}
use Rattle.std.proofs.lemmas.Fmt.{IsAscii-decimal}
use Rattle.std.proofs.lemmas.Str.{IsUtf8-append, IsUtf8-from_ascii}
use Rattle.std.proofs.lemmas.Str.Ascii.{IsAscii-cons, IsAscii-nil}
use Rattle.std.proofs.lemmas.List.{append_cancel_left}
use Rattle.tl_tile.specs.declared.resource.Resource.{Resource}
use Rattle.tl_tile.specs.declared.resource.Resource.TheVariants as resource
use Rattle.tl_tile.specs.Path.{IsResource, path_text}
use Rattle.tl_folder.specs.Step.{Path, Bytes, Step}
use Rattle.tl_folder.specs.Step as step
use Rattle.tl_folder.specs.FileCalls.{Call, Begins}
use Rattle.tl_folder.specs.Posix.{Torn, Disk, or_lost, after, after_failed, Becomes}
use Rattle.tl_folder.specs.Settling.{marking, new_path}
use Rattle.tl_folder.specs.Places.{mark_path, mark_text, place_of}
use Rattle.tl_folder.proofs.Disks.{put_other, rename_other}
use Rattle.tl_folder.proofs.Ends.{ends_place, beside_no_place}

-- a mark is valid UTF-8
pub mark_utf8 : (size : ℕ) → size < 2 ^ 63 → IsUtf8 (mark_text size)
mark_utf8 size small =
    IsUtf8-append (decimal size) (10 ∷ []) (IsUtf8-from_ascii (decimal size) (IsAscii-decimal size (omega (arith, small))))
    (IsUtf8-from_ascii (10 ∷ []) (IsAscii-cons 10 [] (omega arith) IsAscii-nil))

-- the step, done or failed, leaves what is at the path
abbrev pub Leaves : Step → Path → Type 0
Leaves s q = (rest : Bytes) (disk : Disk) → (after s disk q ≡ disk q) × (after_failed s rest disk q ≡ disk q)

-- so does each of the steps
abbrev pub AllLeave : List Step → Path → Type 0
AllLeave [] q = Unit {0}
AllLeave (s ∷ more) q = Leaves s q × AllLeave more q

pub all_leave : (steps : List Step) (calls : List Call) (disk now : Disk) (q : Path) → AllLeave steps q → Begins steps calls → Becomes disk calls now → now q ≡ disk q
all_leave steps [] disk now q leave begins becomes = ap (λ (x : Disk). x q) becomes
all_leave [] (call ∷ more) disk now q leave begins becomes = absurd begins
all_leave (s ∷ steps) ((asked, true) ∷ more) disk now q leave begins becomes =
    all_leave steps more (after asked disk) now q leave.1 begins.1 becomes ∙ subst (λ (x : Step). after x disk q ≡ disk q) (sym begins.0) (leave.0 [] disk).0
all_leave (s ∷ steps) ((asked, false) ∷ more) disk now q leave begins (inl not_done) =
    let is : now ≡ disk = subst (λ (x : List Call). Becomes disk x now) begins.1 not_done in
    ap (λ (x : Disk). x q) is
all_leave (s ∷ steps) ((asked, false) ∷ more) disk now q leave begins (inr (rest, in_part)) =
    let is : now ≡ after_failed asked rest disk = subst (λ (x : List Call). Becomes (after_failed asked rest disk) x now) begins.1 in_part in
    ap (λ (x : Disk). x q) is ∙ subst (λ (x : Step). after_failed x rest disk q ≡ disk q) (sym begins.0) (leave.0 rest disk).1

write_leaves : (path q : Path) (bytes : Bytes) → q ≢ path → Leaves (step.Write path bytes) q
write_leaves path q bytes apart rest disk = (
  put_other path q (record { there = Some (Torn [] bytes); older = or_lost (disk path).there (disk path).older }) disk apart,
  put_other path q (record { there = Some (Torn [] rest); older = or_lost (disk path).there (disk path).older }) disk apart,
)

rename_leaves : (from to q : Path) → q ≢ from → q ≢ to → Leaves (step.Rename from to) q
rename_leaves from to q not_from not_to rest disk = (rename_other from to q disk not_from not_to, rename_other from to q disk not_from not_to)

-- the path of a resource begins with another letter than the mark's
abbrev first_of : Path → ℕ
first_of text = get_or text 0 0

no_mark : (r : Resource) → path_text r ≢ codes "published"
no_mark (resource.Tile t) same = let it : 116 ≡ 112 = ap first_of same in absurd (omega (arith, it))
no_mark (resource.Entries index width) same = let it : 116 ≡ 112 = ap first_of same in absurd (omega (arith, it))
no_mark resource.Checkpoint same = let it : 99 ≡ 112 = ap first_of same in absurd (omega (arith, it))

never_mark : (root : Path) (r : Resource) → place_of root r ≢ mark_path root
never_mark root r same = no_mark r (append_cancel_left (root ++ 47 ∷ []) (path_text r) (codes "published") same)

pub mark_spares : (disk now : Disk) (root : Path) (s : Resource) (bytes : Bytes) (calls : List Call)
    → IsResource s → Begins (marking root bytes) calls → Becomes disk calls now → now (place_of root s) ≡ disk (place_of root s)
mark_spares disk now root s bytes calls is begins becomes =
    let own : Path = mark_path root in
    let beside : place_of root s ≢ new_path own = λ e. beside_no_place own (place_of root s) (ends_place root s is) (sym e) in
    all_leave (marking root bytes) calls disk now (place_of root s)
    (write_leaves (new_path own) (place_of root s) bytes beside, (rename_leaves (new_path own) own (place_of root s) beside (never_mark root s), tt)) begins becomes
