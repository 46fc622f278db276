-- The steps of sending a signed request.
use Rattle.std.specs.Prelude.{Result, Ok, Err, vec_items}
use Rattle.tl_http.specs.Post.{Given, value_bytes}
use Rattle.tl_http.specs.declared.message.Response.{Response}
use Rattle.tl_s3.specs.declared.fault.ObjectFault.{ObjectFault}

-- the result of sending as a value, without whether the connection stays open
abbrev pub response_told : {A : Type 0} → Result (Response A) ObjectFault → Result Given ObjectFault
response_told (Ok response) =
    Ok (record { status = response.status; field = value_bytes response.field; body = vec_items response.body })
response_told (Err fault) = Err fault
