-- From the steps of a signed request to the whole.
use Rattle.std.proofs.Common.{◌≡◌, ◌∙◌, ◌++◌, List, [], ◌∷◌, Result, Ok, Err, ap, codes, inl, inr, refl, subst}
use Rattle.tl_device.specs.Device.{Passage}
use Rattle.tl_http.specs.Exchange.{Exchanges, Sought}
use Rattle.tl_http.specs.Message.{Sent}
use Rattle.tl_http.specs.Post.{Given, Replied}
use Rattle.tl_hash.specs.Bytes.{Bytes}
use Rattle.tl_s3.specs.Objects.{get_fields, put_fields}
use Rattle.tl_s3.specs.Requests.{Asks, told_by}
use Rattle.tl_s3.specs.declared.fault.ObjectFault.{ObjectFault}
use Rattle.tl_s3.specs.declared.object.Condition.{Condition}
use Rattle.tl_s3.specs.Canonical.{IsCanonical, Pair, Signed}
use Rattle.tl_s3.specs.Signing.{Scoped, authorization}
use Rattle.tl_s3.specs.Time.{Civil}

-- this of a response, or the fault
abbrev pub map_told : (T : Type 0) → (Given → T) → Result Given ObjectFault → Result T ObjectFault
map_told T tell (Ok given) = Ok (tell given)
map_told T tell (Err fault) = Err fault

-- a request that is sent with these fields
abbrev pub sent_with : Bytes → Bytes → Bytes → List Pair → Sent
sent_with method target body fields = record { method = method; target = target; fields = fields; body = body }

-- the request was sent with its very signature
pub asks_signed : (r : Signed) (c : Scoped) (t : Civil) (body : Bytes) (s : Sought) (i o : Passage) (fields : List Pair) (value : Bytes) (reply : Replied)
    → IsCanonical r.fields → fields ≡ r.fields ++ (codes "authorization", value) ∷ [] → value ≡ authorization r c t
    → Exchanges (sent_with r.method r.path body fields) s i o reply → Asks (λ (g : Given). g) r c t body s i o (told_by (λ (g : Given). g) reply)
asks_signed r c t body s i o fields value reply canonical lines signed exchanges =
    let same : fields ≡ r.fields ++ (codes "authorization", authorization r c t) ∷ [] =
    lines ∙ ap (λ (v : Bytes). r.fields ++ (codes "authorization", v) ∷ []) signed in
    inr (inr (
      canonical,
      (reply, subst (λ (fs : List Pair). Exchanges (sent_with r.method r.path body fs) s i o reply) same exchanges, refl),
    ))

told_twice : (T : Type 0) (tell : Given → T) (reply : Replied) → map_told T tell (told_by (λ (g : Given). g) reply) ≡ told_by tell reply
told_twice T tell (Ok given) = refl
told_twice T tell (Err fault) = refl

-- what is taken of a response doesn't matter to the table
pub asks_told : (T : Type 0) (tell : Given → T) (r : Signed) (c : Scoped) (t : Civil) (body : Bytes) (s : Sought) (i o : Passage) (told : Result Given ObjectFault)
    → Asks (λ (g : Given). g) r c t body s i o told → Asks tell r c t body s i o (map_told T tell told)
asks_told T tell r c t body s i o told (inl memory) = inl (ap (map_told T tell) memory.0, memory.1, memory.2)
asks_told T tell r c t body s i o told (inr (inl bad)) = inr (inl (bad.0, (ap (map_told T tell) bad.1.0, bad.1.1, bad.1.2)))
asks_told T tell r c t body s i o told (inr (inr sent)) =
    inr (inr (sent.0, (sent.1.0, sent.1.1, ap (map_told T tell) sent.1.2 ∙ told_twice T tell sent.1.0)))

-- a request, from its parts
abbrev pub request_with : Bytes → Bytes → Bytes → List Pair → Bytes → Signed
request_with method query path fields payload =
    record { method = method; path = path; query = query; fields = fields; payload = payload }

-- requests with equal parts are equal
pub same_request : (method query path fullpath : Bytes) (fields all : List Pair) (payload digest : Bytes) → path ≡ fullpath → fields ≡ all → payload ≡ digest
    → request_with method query path fields payload ≡ request_with method query fullpath all digest
same_request method query path fullpath fields all payload digest a b c =
    ap (λ (p : Bytes). request_with method query p fields payload) a
    ∙ (ap (λ (fs : List Pair). request_with method query fullpath fs payload) b
    ∙ ap (λ (d : Bytes). request_with method query fullpath all d) c)

-- what is taken of a response doesn't matter, for a request with equal parts
pub asks_as : (T : Type 0) (tell : Given → T) (r all : Signed) (c : Scoped) (t : Civil) (body : Bytes) (s : Sought) (i o : Passage) (told : Result Given ObjectFault)
    → r ≡ all → Asks (λ (g : Given). g) r c t body s i o told → Asks tell all c t body s i o (map_told T tell told)
asks_as T tell r all c t body s i o told same asks =
    asks_told T tell all c t body s i o told (subst (λ (x : Signed). Asks (λ (g : Given). g) x c t body s i o told) same asks)

-- the fields of a put, by the texts that were made
pub same_put_fields : (host cache_control content_type : Bytes) (condition : Condition) (text digest time clock : Bytes) (fields : List Pair)
    → fields ≡ put_fields host cache_control content_type condition text time → text ≡ digest → time ≡ clock
    → fields ≡ put_fields host cache_control content_type condition digest clock
same_put_fields host cache_control content_type condition text digest time clock fields is a b =
    is ∙ (ap (λ (d : Bytes). put_fields host cache_control content_type condition d time) a
    ∙ ap (λ (t : Bytes). put_fields host cache_control content_type condition digest t) b)

-- the fields of a get
pub same_get_fields : (host text digest time clock : Bytes) (fields : List Pair) → fields ≡ get_fields host text time → text ≡ digest → time ≡ clock
    → fields ≡ get_fields host digest clock
same_get_fields host text digest time clock fields is a b =
    is ∙ (ap (λ (d : Bytes). get_fields host d time) a ∙ ap (λ (t : Bytes). get_fields host digest t) b)
