-- The outcomes of requests.
use Rattle.std.specs.Prelude.{◌≡◌, Option, Some, None, vec_items}
use Rattle.tl_http.specs.Post.{value_bytes}
use Rattle.tl_hash.specs.Bytes.{Bytes}
use Rattle.tl_s3.specs.Objects.{Content, Place}
use Rattle.tl_s3.specs.declared.object.Condition.{Condition}
use Rattle.tl_s3.specs.declared.object.PutAnswer.{PutAnswer}
use Rattle.tl_s3.specs.declared.object.PutAnswer.TheVariants as put
use Rattle.tl_bucket.specs.Answered.{WasMissing, WasPut, WasReadWith, WasThereWith}
use Rattle.tl_bucket.specs.declared.asking.Found.{Found}
use Rattle.tl_bucket.specs.declared.asking.PutOutcome.{PutOutcome}
use Rattle.tl_bucket.specs.declared.asking.PutOutcome.TheVariants as outcome

-- what is known of an object after it was put under the condition: it was there, with this entity tag, or the put was
-- answered as refused
abbrev pub Concludes : Place → Content → Condition → PutOutcome → Type 0
Concludes p content condition (outcome.Done etag) = WasThereWith p content condition (value_bytes etag)
Concludes p content condition outcome.Refused = WasPut p content condition put.Refused

-- what is known of an object that was asked for: it was there with the body and the entity tag that were found, or
-- there was none
abbrev pub Finds : Place → Bytes → Option Found → Type 0
Finds p path (Some found) = WasReadWith p path (vec_items found.body) (value_bytes found.etag)
Finds p path None = WasMissing p path

-- the outcome that the answer to a put, with this entity tag, shows by itself
abbrev pub Tells : PutAnswer → Option Bytes → PutOutcome → Type 0
Tells answer etag (outcome.Done tag) = (answer ≡ put.Done) × (value_bytes tag ≡ etag)
Tells answer etag outcome.Refused = answer ≡ put.Refused
