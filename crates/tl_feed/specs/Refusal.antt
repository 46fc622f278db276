-- How a witness refuses (C2SP tlog-witness, "add-checkpoint").
use Rattle.std.specs.Prelude.{ℕ, ◌==◌, if◌then◌else◌}
use Rattle.tl_http.specs.declared.fault.HttpFault.{HttpFault}
use Rattle.tl_http.specs.declared.fault.HttpFault.TheVariants as get
use Rattle.tl_feed.specs.declared.fault.AskFault.{AskFault}
use Rattle.tl_feed.specs.declared.fault.AskFault.TheVariants as ask

-- what a status other than 200 and 409 means: 400 that the request is malformed, 403 that no key that signed the
-- checkpoint is trusted, 404 that the log isn't known, 422 that the proof isn't accepted
abbrev pub refusal_of_status : ℕ → AskFault
refusal_of_status status =
    if status == 400 then ask.Malformed
    else if status == 403 then ask.Untrusted
    else if status == 404 then ask.Unknown
    else if status == 422 then ask.Unproved
    else ask.Get (get.Status status)

-- why a witness neither cosigned nor gave a size, after the fault of a request
abbrev pub refusal_of : HttpFault → AskFault
refusal_of (get.Status status) = refusal_of_status status
refusal_of get.OutOfMemory = ask.OutOfMemory
refusal_of fault = ask.Get fault
