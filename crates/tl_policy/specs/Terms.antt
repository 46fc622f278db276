-- What a policy says, whatever memory it is in (C2SP tlog-policy).
use Rattle.std.specs.Prelude.{ℕ, List, Option, map, vec_items}
use Rattle.std.specs.Borrow.{Bor}
use Rattle.std.specs.Option.{option_map}
use Rattle.tl_hash.specs.Bytes.{Bytes}
use Rattle.tl_key.specs.NoteKey.{PublicKey}
use Rattle.tl_policy.specs.declared.policy.Member.{Member}
use Rattle.tl_policy.specs.declared.policy.PolicyLog.{PolicyLog}
use Rattle.tl_policy.specs.declared.policy.PolicyWitness.{PolicyWitness}
use Rattle.tl_policy.specs.declared.policy.PolicyGroup.{PolicyGroup}
use Rattle.tl_policy.specs.declared.policy.Policy.{Policy}

-- a log that is trusted, by its key
pub record LogTerm : Type 0 where
  pub key : PublicKey
  pub url : Option Bytes

-- a witness
pub record WitnessTerm : Type 0 where
  pub name : Bytes
  pub key : PublicKey
  pub url : Option Bytes

-- a group, and how many of its members have to be satisfied
pub record GroupTerm : Type 0 where
  pub name : Bytes
  pub threshold : ℕ
  pub members : List Member

-- the logs, the witnesses and the groups, each in the order of the lines, and who has to be satisfied, or nobody
pub record Terms : Type 0 where
  pub logs : List LogTerm
  pub witnesses : List WitnessTerm
  pub groups : List GroupTerm
  pub quorum : Option Member

-- ---- what a policy in memory says

abbrev pub url_of : Option (Bor Bytes) → Option Bytes
url_of url = option_map (λ text. text.now) url

abbrev pub log_term : PolicyLog → LogTerm
log_term l = record { key = l.key; url = url_of l.url }

abbrev pub witness_term : PolicyWitness → WitnessTerm
witness_term w = record { name = w.name.now; key = w.key; url = url_of w.url }

abbrev pub group_term : {A : Type 0} → PolicyGroup A → GroupTerm
group_term g = record { name = g.name.now; threshold = g.threshold; members = vec_items g.members }

abbrev pub terms_of : {A : Type 0} → Policy A → Terms
terms_of p = record {
  logs = map log_term (vec_items p.logs);
  witnesses = map witness_term (vec_items p.witnesses);
  groups = map group_term (vec_items p.groups);
  quorum = p.quorum;
}
