-- Faults of checks as faults of the command.
use Rattle.tl_note.specs.declared.fault.NoteFault.{NoteFault}
use Rattle.tl_note.specs.declared.fault.NoteFault.TheVariants as note
use Rattle.tl_client.specs.declared.fault.ClientFault.{ClientFault}
use Rattle.tl_client.specs.declared.fault.ClientFault.TheVariants as client
use Rattle.tl_client.specs.declared.head.HeadFault.{HeadFault}
use Rattle.tl_client.specs.declared.head.HeadFault.TheVariants as head
use Rattle.tl_tile.specs.declared.resource.Resource.TheVariants as resource
use Rattle.tl_command.specs.Open.{after_note}
use Rattle.tl_run.specs.declared.place.Place.TheVariants as place
use Rattle.tl_run.specs.declared.fault.RunFault.{RunFault}
use Rattle.tl_run.specs.declared.fault.RunFault.TheVariants as run
use Rattle.tl_policy.specs.declared.trust_fault.TrustFault.{TrustFault}
use Rattle.tl_policy.specs.declared.trust_fault.TrustFault.TheVariants as trust
use Rattle.tl_fetch.specs.declared.fault.FetchFault.{FetchFault}
use Rattle.tl_fetch.specs.declared.fault.FetchFault.TheVariants as fetch

-- the fault for a failed check; only evidence says that the log forked
abbrev pub after_client : ClientFault → FetchFault
after_client client.Range = fetch.Run run.BadIndex
after_client client.Unavailable = fetch.Unavailable
after_client (client.BadTile level index width) = fetch.BadTile level index width
after_client (client.BadBundle bundle) = fetch.BadBundle bundle
after_client (client.BadEntry index) = fetch.BadEntry index
after_client client.Shrunk = fetch.Unavailable
after_client client.Forked = fetch.Unavailable
after_client client.OutOfMemory = fetch.Run run.OutOfMemory

-- the source's bytes for the checkpoint are no checkpoint
abbrev pub bad_checkpoint : RunFault
bad_checkpoint = run.BadCheckpoint (place.Source resource.Checkpoint)

-- the fault for a checkpoint that doesn't open as a note
abbrev pub after_unopened : NoteFault → RunFault
after_unopened note.Malformed = bad_checkpoint
after_unopened fault = after_note fault

-- the fault for a checkpoint that isn't trusted
abbrev pub after_head : HeadFault → FetchFault
after_head (head.Unopened fault) = fetch.Run (after_unopened fault)
after_head (head.NoCheckpoint fault) = fetch.Run bad_checkpoint
after_head (head.TooFew count) = fetch.TooFew count
after_head head.OutOfMemory = fetch.Run run.OutOfMemory

-- the fault for a checkpoint that the text of a policy doesn't trust
abbrev pub after_trust : TrustFault → FetchFault
after_trust trust.OutOfMemory = fetch.Run run.OutOfMemory
after_trust why = fetch.Untrusted why

-- a fault that doesn't say that the log forked
abbrev pub IsNoAccusation : FetchFault → Type 0
IsNoAccusation fetch.Forked = ⊥
IsNoAccusation fault = Unit {0}
