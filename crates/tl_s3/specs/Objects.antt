-- Objects of a bucket (Amazon S3 API Reference, PutObject and GetObject; RFC 9110, sections 13.1.1 and 13.1.2).
use Rattle.std.specs.Prelude.{◌++◌, List, [], ◌∷◌, codes}
use Rattle.hex.specs.Hex.{encode_lower}
use Rattle.sha2.specs.Sha256.{sha256}
use Rattle.tl_hash.specs.Bytes.{Bytes}
use Rattle.tl_s3.specs.declared.object.Bucket.{Bucket}
use Rattle.tl_s3.specs.declared.object.Condition.{Condition}
use Rattle.tl_s3.specs.declared.object.Condition.TheVariants.{Always, Absent, Matches}
use Rattle.tl_s3.specs.declared.object.Object.{Object}
use Rattle.tl_s3.specs.Canonical.{Pair, Signed}
use Rattle.tl_s3.specs.CanonicalRequests.{credential_of}
use Rattle.tl_s3.specs.Signing.{Scoped}
use Rattle.tl_s3.specs.Time.{Civil, time_text}

-- a bucket: its host, the prefix of each path, and the credential that signs
pub record Place : Type 0 where
  pub host : Bytes
  pub prefix : Bytes
  pub credential : Scoped

abbrev pub place_of : Bucket → Place
place_of b = record { host = b.host.now; prefix = b.prefix.now; credential = credential_of b.credential }

-- an object: its path, the two fields that the server sends with it, and its bytes
pub record Content : Type 0 where
  pub path : Bytes
  pub content_type : Bytes
  pub cache_control : Bytes
  pub body : Bytes

abbrev pub content_of : Object → Content
content_of o =
    record {
      path = o.path.now;
      content_type = o.content_type.now;
      cache_control = o.cache_control.now;
      body = o.body.now;
    }

-- the field with the condition under which an object is put
abbrev pub condition_fields : Condition → List Pair
condition_fields Always = []
condition_fields Absent = (codes "if-none-match", codes "*") ∷ []
condition_fields (Matches etag) = (codes "if-match", etag.now) ∷ []

-- the digest of a body: SHA-256 in hexadecimal
abbrev pub payload : Bytes → Bytes
payload body = encode_lower (sha256 body)

-- the fields that each signed request has, with this digest of its body, at the time with this text
abbrev pub amazon_fields : Bytes → Bytes → List Pair
amazon_fields digest time = (codes "x-amz-content-sha256", digest) ∷ (codes "x-amz-date", time) ∷ []

-- the fields of a put, with this digest of the body, at the time with this text
abbrev pub put_fields : Bytes → Bytes → Bytes → Condition → Bytes → Bytes → List Pair
put_fields host cache_control content_type condition digest time =
    (codes "cache-control", cache_control) ∷ (codes "content-type", content_type) ∷ (codes "host", host)
    ∷ condition_fields condition ++ amazon_fields digest time

-- the request that puts an object
abbrev pub put_request : Place → Civil → Content → Condition → Signed
put_request p t o condition =
    record {
      method = codes "PUT";
      path = p.prefix ++ o.path;
      query = [];
      fields = put_fields p.host o.cache_control o.content_type condition (payload o.body) (time_text t);
      payload = payload o.body;
    }

-- the fields of a get
abbrev pub get_fields : Bytes → Bytes → Bytes → List Pair
get_fields host digest time = (codes "host", host) ∷ amazon_fields digest time

-- the request that gets an object with this path
abbrev pub get_request : Place → Civil → Bytes → Signed
get_request p t path =
    record {
      method = codes "GET";
      path = p.prefix ++ path;
      query = [];
      fields = get_fields p.host (payload []) (time_text t);
      payload = payload [];
    }
