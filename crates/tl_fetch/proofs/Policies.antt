-- The policy of a run: what it says beside the log's keys, and the keys.
use Rattle.std.proofs.Common.{◌≡◌, option_map, List, Option, Some, None, Result, Ok, Err, map, inl, inr, subst, sym, string_bytes}
use Rattle.tl_hash.specs.Bytes.{Bytes}
use Rattle.tl_note.specs.Key.{Key}
use Rattle.tl_key.specs.NoteKey.{PublicKey, verifier_key}
use Rattle.tl_device.specs.Device.{Passage}
use Rattle.tl_policy.specs.Terms.{Terms}
use Rattle.tl_fetch.specs.declared.fault.FetchFault.{FetchFault}
use Rattle.tl_fetch.specs.declared.conditions.Conditions.{Conditions}
use Rattle.tl_fetch.specs.declared.options.FetchOptions.{FetchOptions}
use Rattle.tl_fetch.specs.declared.feed.command.FeedOptions.{FeedOptions}
use Rattle.tl_fetch.specs.ByPolicy.{AreKeysBy, FeedsBy, FetchesBy, IsPolicyBy}
use Rattle.tl_fetch.specs.Command.{HaveLogKeys, IsKeyFault, IsPolicyOf, IsSinceOf, RunsFetch, RunsUnder, keys_of, log_texts}
use Rattle.tl_fetch.specs.FeedCommand.{RunsFeed, RunsFeedUnder, address_texts}
use Rattle.tl_fetch.specs.Inner.LogKeys.{AreNamed, OrEarly}
use Rattle.tl_fetch.specs.Trusting.{Policy, Under, under_of}

-- the policy that asks this of a checkpoint that one of these keys signed
abbrev pub with_keys : List Key → Conditions → Policy
with_keys keys asked = record {
  origin = asked.origin.now;
  trust = record { keys = keys; witnesses = map verifier_key asked.witnesses.now; need = asked.need };
  since = asked.since;
  under = option_map under_of asked.under;
}

-- ---- the policy that the options describe

is_policy_of : (options : FetchOptions) (policy : Policy) (key : PublicKey) (other : Option PublicKey) (witnesses : List PublicKey)
    → AreNamed options key.name (keys_of key other) witnesses → policy.origin ≡ key.name → policy.trust.keys ≡ map verifier_key (keys_of key other) → policy.trust.witnesses ≡ map verifier_key witnesses
    → policy.trust.need ≡ options.need → IsSinceOf options.fresh policy.since → policy.under ≡ None → IsPolicyOf options policy
is_policy_of options policy key other witnesses named origin trusted asked need since none = record {
  keys = keys_of key other;
  spelled = subst (λ (name : Bytes). HaveLogKeys name (log_texts options) (keys_of key other)) (sym origin) named.spelled;
  trusted = trusted;
  need = need;
  since = since;
  no_text = none;
  witnesses = witnesses;
  own = named.own;
  asked = asked;
}

pub runs_fetch : (options : FetchOptions) (policy : Policy) (key : PublicKey) (other : Option PublicKey) (witnesses : List PublicKey) (o : Passage)
    (result : Result (Unit {0}) FetchFault) → AreNamed options key.name (keys_of key other) witnesses → policy.origin ≡ key.name
    → policy.trust.keys ≡ map verifier_key (keys_of key other) → policy.trust.witnesses ≡ map verifier_key witnesses → policy.trust.need ≡ options.need → IsSinceOf options.fresh policy.since → policy.under ≡ None
    → OrEarly (RunsUnder policy options o) o result → RunsFetch options o result
runs_fetch options policy key other witnesses o (Ok done) named origin trusted asked need since none runs =
    (policy, is_policy_of options policy key other witnesses named origin trusted asked need since none, runs)
runs_fetch options policy key other witnesses o (Err fault) named origin trusted asked need since none (inl runs) =
    inl (policy, is_policy_of options policy key other witnesses named origin trusted asked need since none, runs)
runs_fetch options policy key other witnesses o (Err fault) named origin trusted asked need since none (inr early) =
    inr (subst (IsKeyFault options) (sym early.0) tt, early.1)

runs_feed_to : (options : FeedOptions) (policy : Policy) (key : PublicKey) (other : Option PublicKey) (witnesses : List PublicKey) (o : Passage)
    (result : Result (Unit {0}) FetchFault) → AreNamed options.log key.name (keys_of key other) witnesses → policy.origin ≡ key.name
    → policy.trust.keys ≡ map verifier_key (keys_of key other) → policy.trust.witnesses ≡ map verifier_key witnesses → policy.trust.need ≡ options.log.need → IsSinceOf options.log.fresh policy.since → policy.under ≡ None
    → OrEarly (RunsFeedUnder policy (address_texts options) options.log o) o result → RunsFeed options o result
runs_feed_to options policy key other witnesses o (Ok done) named origin trusted asked need since none runs =
    (policy, is_policy_of options.log policy key other witnesses named origin trusted asked need since none, runs)
runs_feed_to options policy key other witnesses o (Err fault) named origin trusted asked need since none (inl runs) =
    inl (policy, is_policy_of options.log policy key other witnesses named origin trusted asked need since none, runs)
runs_feed_to options policy key other witnesses o (Err fault) named origin trusted asked need since none (inr early) =
    inr (subst (IsKeyFault options.log) (sym early.0) tt, early.1)

pub runs_feed : (options : FeedOptions) (policy : Policy) (to : List Bytes) (key : PublicKey) (other : Option PublicKey) (witnesses : List PublicKey) (o : Passage)
    (result : Result (Unit {0}) FetchFault) → AreNamed options.log key.name (keys_of key other) witnesses → policy.origin ≡ key.name
    → policy.trust.keys ≡ map verifier_key (keys_of key other) → policy.trust.witnesses ≡ map verifier_key witnesses → policy.trust.need ≡ options.log.need → IsSinceOf options.log.fresh policy.since → policy.under ≡ None
    → to ≡ address_texts options → OrEarly (RunsFeedUnder policy to options.log o) o result → RunsFeed options o result
runs_feed options policy to key other witnesses o result named origin trusted asked need since none same runs =
    runs_feed_to options policy key other witnesses o result named origin trusted asked need since none
    (subst (λ (ts : List Bytes). OrEarly (RunsFeedUnder policy ts options.log o) o result) same runs)

-- ---- the policy that a text describes

is_policy_by : (terms : Terms) (options : FetchOptions) (policy : Policy) (key : PublicKey) (other : Option PublicKey) (under : Under)
    → AreKeysBy terms (string_bytes options.from) key other → policy.origin ≡ key.name → policy.trust.keys ≡ map verifier_key (keys_of key other) → policy.trust.need ≡ 0 → policy.under ≡ Some under
    → under.terms ≡ terms → IsSinceOf options.fresh under.since → IsPolicyBy terms options policy
is_policy_by terms options policy key other under chosen origin keys none asked text since = record {
  key = key;
  other = other;
  chosen = chosen;
  origin = origin;
  keys = keys;
  none_needed = none;
  under = under;
  asked = asked;
  text = text;
  since = since;
}

pub fetches_by : (terms : Terms) (options : FetchOptions) (policy : Policy) (key : PublicKey) (other : Option PublicKey) (under : Under) (o : Passage)
    (result : Result (Unit {0}) FetchFault) → AreKeysBy terms (string_bytes options.from) key other → policy.origin ≡ key.name → policy.trust.keys ≡ map verifier_key (keys_of key other) → policy.trust.need ≡ 0
    → policy.under ≡ Some under → under.terms ≡ terms → IsSinceOf options.fresh under.since
    → OrEarly (RunsUnder policy options o) o result → FetchesBy terms options o result
fetches_by terms options policy key other under o (Ok done) chosen origin keys none asked text since runs =
    (policy, is_policy_by terms options policy key other under chosen origin keys none asked text since, runs)
fetches_by terms options policy key other under o (Err fault) chosen origin keys none asked text since (inl runs) =
    inl (policy, is_policy_by terms options policy key other under chosen origin keys none asked text since, runs)
fetches_by terms options policy key other under o (Err fault) chosen origin keys none asked text since (inr early) = inr (inr early.0, early.1)

pub feeds_by : (terms : Terms) (options : FetchOptions) (policy : Policy) (key : PublicKey) (other : Option PublicKey) (under : Under) (to : List Bytes) (o : Passage)
    (result : Result (Unit {0}) FetchFault) → AreKeysBy terms (string_bytes options.from) key other → policy.origin ≡ key.name → policy.trust.keys ≡ map verifier_key (keys_of key other) → policy.trust.need ≡ 0
    → policy.under ≡ Some under → under.terms ≡ terms → IsSinceOf options.fresh under.since
    → OrEarly (RunsFeedUnder policy to options o) o result → FeedsBy terms options o result
feeds_by terms options policy key other under to o (Ok done) chosen origin keys none asked text since runs =
    (to, (policy, is_policy_by terms options policy key other under chosen origin keys none asked text since, runs))
feeds_by terms options policy key other under to o (Err fault) chosen origin keys none asked text since (inl runs) =
    inl (to, (policy, is_policy_by terms options policy key other under chosen origin keys none asked text since, runs))
feeds_by terms options policy key other under to o (Err fault) chosen origin keys none asked text since (inr early) = inr (inr early.0, early.1)
