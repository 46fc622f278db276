-- Requests and credentials as values.
use Rattle.std.specs.Prelude.{map}
use Rattle.tl_s3.specs.declared.credential.Credential.{Credential}
use Rattle.tl_s3.specs.declared.request.Field.{Field}
use Rattle.tl_s3.specs.declared.request.Request.{Request}
use Rattle.tl_s3.specs.Canonical.{Pair, Signed}
use Rattle.tl_s3.specs.Signing.{Scoped}

-- a field's name and value
abbrev pub field_of : Field → Pair
field_of f = (f.name.now, f.value.now)

-- the parts of a request that are signed
abbrev pub request_of : Request → Signed
request_of r =
    record {
      method = r.method.now;
      path = r.path.now;
      query = r.query.now;
      fields = map field_of r.fields.now;
      payload = r.payload.now;
    }

-- a credential: its key, and the region and the service that its signatures are for
abbrev pub credential_of : Credential → Scoped
credential_of c =
    record { id = c.id.now; secret = c.secret.now; region = c.region.now; service = c.service.now }
