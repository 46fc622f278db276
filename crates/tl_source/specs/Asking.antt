-- One request for a resource under an address.
use Rattle.std.specs.Prelude.{◌≡◌, ◌⊎◌, ℕ, [], ◌∷◌, ◌++◌, ◌≤◌, length, Ok, codes}
use Rattle.tl_hash.specs.Bytes.{Bytes}
use Rattle.tl_http.specs.Exchange.{Sought}
use Rattle.tl_http.specs.Message.{Sent}
use Rattle.tl_http.specs.Post.{Given, Replied}
use Rattle.tl_tile.specs.declared.resource.Resource.{Resource}
use Rattle.tl_folder.specs.Limits.{most_bytes}
use Rattle.tl_folder.specs.Places.{place_of}
use Rattle.tl_source.specs.Calling.{MayExchange}

-- the text ends with a slash
abbrev pub EndsWithSlash : Bytes → Type 0
EndsWithSlash text = (front : Bytes) × (text ≡ front ++ codes "/")

-- the prefix without the slash that it may end with
abbrev pub IsFront : Bytes → Bytes → Type 0
IsFront prefix front = (prefix ≡ front ++ codes "/") ⊎ (¬ (EndsWithSlash prefix) × (front ≡ prefix))

-- this is the request target of a resource under a prefix
pub record IsTarget (prefix : Bytes) (resource : Resource) (target : Bytes) : Type 0 where
  pub front : Bytes
  pub cut : IsFront prefix front
  pub is : target ≡ place_of front resource

-- the request for a target: by GET, with the field Host and no body
abbrev pub request_of : Bytes → Bytes → Sent
request_of authority target =
    record { method = codes "GET"; target = target; fields = (codes "Host", authority) ∷ []; body = [] }

-- the responses that are wanted: those with status 200, whose body has at most so many bytes
abbrev pub wanted_up_to : ℕ → Sought
wanted_up_to most = record { statuses = 200 ∷ []; field = []; limit = most }

-- one request to the host for the target of a resource may have this outcome
pub record Asks (authority prefix : Bytes) (resource : Resource) (r : Replied) : Type 0 where
  pub target : Bytes
  pub target_is : IsTarget prefix resource target
  pub exchange : MayExchange (request_of authority target) (wanted_up_to (most_bytes resource)) r

-- one request for the resource may give this body: that of a response with status 200, of at most `most_bytes`
pub record MayGive (authority prefix : Bytes) (resource : Resource) (body : Bytes) : Type 0 where
  pub given : Given
  pub asks : Asks authority prefix resource (Ok given)
  pub is : given.body ≡ body
  pub short : length body ≤ most_bytes resource
