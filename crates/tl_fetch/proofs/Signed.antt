-- A note of a log, as it is proposed to witnesses.
use Rattle.tl_hash.specs.Bytes.{Bytes}
use Rattle.tl_hash.specs.declared.head.Head.{Head}
use Rattle.tl_feed.specs.Proposing.{IsSignedBy}
use Rattle.tl_fetch.specs.Trusting.{IsNoteOf, Policy, alone}

-- the log signed it
pub signed_alone : (policy : Policy) (note : Bytes) (head : Head) → IsNoteOf (alone policy) note head → IsSignedBy policy.origin policy.trust.keys note head
signed_alone policy note head is = record { checkpoint = is.checkpoint; signed = is.trusted.1.signed; named = is.origin; size = is.size; root = is.root }
