-- What a fault of a policy, and of a checkpoint that isn't trusted, prints.
use Rattle.std.specs.Prelude.{ℕ, ◌++◌, codes}
use Rattle.tl_hash.specs.Bytes.{Bytes}
use Rattle.tl_text.specs.Text.{number_text}
use Rattle.tl_policy.specs.declared.fault.PolicyFault.{PolicyFault}
use Rattle.tl_policy.specs.declared.fault.PolicyFault.TheVariants.{Malformed, TwiceNamed, BadKey, TwiceKeyed, TooManyGroups, UnknownMember, TwiceMember, BadThreshold, SecondQuorum, NoLog, NoQuorum, OutOfMemory}
use Rattle.tl_policy.specs.declared.trust_fault.TrustFault.{TrustFault}
use Rattle.tl_policy.specs.declared.trust_fault.TrustFault.TheVariants as trust

-- a line by its number, and what is wrong with it
abbrev pub line_words : ℕ → Bytes → Bytes
line_words line words = codes "line " ++ number_text line ++ codes ": " ++ words

abbrev pub policy_words : PolicyFault → Bytes
policy_words (Malformed line) = line_words line (codes "malformed")
policy_words (TwiceNamed line) = line_words line (codes "name given twice")
policy_words (BadKey line) = line_words line (codes "bad key")
policy_words (TwiceKeyed line) = line_words line (codes "key given twice")
policy_words (TooManyGroups line) = line_words line (codes "more than 1024 groups")
policy_words (UnknownMember line) = line_words line (codes "unknown member")
policy_words (TwiceMember line) = line_words line (codes "member of two groups")
policy_words (BadThreshold line) = line_words line (codes "bad threshold")
policy_words (SecondQuorum line) = line_words line (codes "second quorum")
policy_words NoLog = codes "no log"
policy_words NoQuorum = codes "no quorum"
policy_words OutOfMemory = codes "out of memory"

abbrev pub trust_words : TrustFault → Bytes
trust_words trust.NoNote = codes "no signed checkpoint"
trust_words trust.Unsigned = codes "signed by no log of the policy"
trust_words trust.InvalidSignature = codes "the log's signature is wrong"
trust_words (trust.NoCheckpoint fault) = codes "the signed text is no checkpoint"
trust_words trust.OtherOrigin = codes "the checkpoint is of another log than its key"
trust_words (trust.NotSatisfied short) = codes "cosigned by " ++ number_text short.have ++ codes ", " ++ number_text short.want ++ codes " wanted"
trust_words trust.OutOfMemory = codes "out of memory"
