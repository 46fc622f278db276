-- How a log answers a request (C2SP tlog-tiles, "Merkle Tree", "Log Entries", "Checkpoints").
use Rattle.std.specs.Prelude.{◌≡◌, ℕ, [], ◌∷◌, Bool, true, Option, Some, None, Result, Ok, Err, IfOk, IfErr, codes, option_map, vec_items}
use Rattle.std.specs.declared.vec.Vec.{Vec}
use Rattle.sha2.specs.Sha256.{sha256}
use Rattle.tl_hash.specs.Bytes.{Bytes}
use Rattle.tl_tile.specs.declared.resource.Resource.{Resource}
use Rattle.tl_tile.specs.declared.resource.Resource.TheVariants as resource
use Rattle.tl_tile.specs.Path.{IsResource, path_text}
use Rattle.tl_archive.specs.Shelves.{Held}
use Rattle.tl_archive.specs.declared.fault.ShelfFault.{ShelfFault}
use Rattle.tl_publisher.specs.Answers.{AnswersBytes}
use Rattle.tl_publisher.specs.Boards.{shown}
use Rattle.tl_publisher.specs.Pasts.{Past}
use Rattle.tl_publisher.specs.declared.fault.GetFault.{GetFault}
use Rattle.tl_publisher.specs.declared.fault.GetFault.TheVariants.{Gone, OutOfMemory}
use Rattle.tl_witness.specs.Cases.{Unless, UnlessSome}
use Rattle.tl_server.specs.Answer.{Answer, bare, not_allowed, plain_text, octets}
use Rattle.tl_server.specs.Exchange.{Begun}

-- the target is a slash and the path of this resource
abbrev pub AsksFor : Bytes → Resource → Type 0
AsksFor target r = IsResource r × (target ≡ 47 ∷ path_text r)

-- the media type of a resource
abbrev pub kind_of : Resource → Bytes
kind_of resource.Checkpoint = plain_text
kind_of _ = octets

-- what looking up a resource on the board returns
abbrev pub Look : Type 0 → Type 0
Look A = Result (Option (Vec ℕ A)) GetFault

-- the answer after a look-up: the bytes; 404 if there are none or the board is gone; 500 if an allocation for a copy
-- fails, which a look-up that finds nothing doesn't make
abbrev pub look_answer : {A : Type 0} → Resource → Look A → Answer
look_answer r (Ok (Some bytes)) = record { status = 200; allow = []; kind = kind_of r; body = vec_items bytes }
look_answer r (Ok None) = bare 404
look_answer r (Err Gone) = bare 404
look_answer r (Err OutOfMemory) = bare 500

-- the answer after one look-up on the board, which returns what its reader then sees there. `old` and `new` are what
-- the reader has seen before and after, and A is the allocator of the bytes
pub record LooksUp (A : Type 0) (old new : Past) (r : Resource) (a : Answer) : Type 0 where
  pub look : Look A
  pub right : AnswersBytes (shown sha256 r new.log) old new look
  pub answer : a ≡ look_answer r look

-- how a request for a resource is answered, by the first case that applies:
--     404   the target isn't a slash and the path of a resource
--     405   the method isn't GET
--     else  looking up the resource decides
-- Idle says that nothing was looked up
abbrev pub ResourceAnswers : Type 0 → (Resource → Answer → Type 0) → Bytes → Bytes → Answer → Type 0
ResourceAnswers Idle Gives method target a =
    UnlessSome (AsksFor target) (Idle × (a ≡ bare 404)) (λ r.
    Unless (method ≡ codes "GET") (Idle × (a ≡ not_allowed (codes "GET")))
    (Gives r a))

-- the answer of a log on the board
abbrev pub LogAnswers : Type 0 → Past → Past → Bytes → Bytes → Answer → Type 0
LogAnswers A old new = ResourceAnswers (new ≡ old) (LooksUp A old new)

-- the answer to a request with this head; its body isn't read
abbrev pub LogDecides : Type 0 → Past → Past → Begun → Answer → Type 0
LogDecides A old new b a = LogAnswers A old new b.head.method b.head.target a

-- what reading a resource on a shelf returns
abbrev pub ShelfRead : Type 0 → Type 0
ShelfRead A = Result (Option (Vec ℕ A)) ShelfFault

-- the answer after a read: the bytes; 404 if there are none; 500 if the read fails
abbrev pub read_answer : {A : Type 0} → Resource → ShelfRead A → Answer
read_answer r (Ok (Some bytes)) = record { status = 200; allow = []; kind = kind_of r; body = vec_items bytes }
read_answer r (Ok None) = bare 404
read_answer r (Err _) = bare 500

-- the answer after one read of a shelf. If the shelf is honest the read returns what is there, and it fails only as
-- the shelf says that it may; A is the allocator of the bytes
pub record ReadsShelf (A : Type 0) (is_honest : Bool) (held : Held) (MayFail : Resource → ShelfFault → Type 0) (r : Resource) (a : Answer) : Type 0 where
  pub read : ShelfRead A
  pub right : is_honest ≡ true → IfOk read (λ found. option_map vec_items found ≡ held r)
  pub failed : IfErr read (MayFail r)
  pub answer : a ≡ read_answer r read

-- the answer of a log on a shelf
abbrev pub ShelfAnswers : Type 0 → Bool → Held → (Resource → ShelfFault → Type 0) → Bytes → Bytes → Answer → Type 0
ShelfAnswers A is_honest held MayFail = ResourceAnswers (Unit {0}) (ReadsShelf A is_honest held MayFail)

-- the answer to a request with this head; its body isn't read
abbrev pub ShelfDecides : Type 0 → Bool → Held → (Resource → ShelfFault → Type 0) → Begun → Answer → Type 0
ShelfDecides A is_honest held MayFail b a = ShelfAnswers A is_honest held MayFail b.head.method b.head.target a
