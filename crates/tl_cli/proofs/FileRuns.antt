-- Runs that read a file, with their options as other words give them.
use Rattle.std.proofs.Common.{◌≡◌, ℕ, List, subst}
use Rattle.std.specs.Prelude.{Option, Result}
use Rattle.tl_device.specs.Device.{Passage}
use Rattle.tl_run.specs.declared.fault.RunFault.{RunFault}
use Rattle.tl_command.specs.Head.{RunsHead}
use Rattle.tl_command.specs.Open.{RunsOpen}
use Rattle.tl_evidence.specs.ForkCommand.{RunsFork}
use Rattle.tl_cli.specs.Job.{BuildsDemo, BuildsSigned, ChecksFile}

pub builds_signed : (origin named : List ℕ) (get asked : Option (List ℕ)) (i o : Passage) (r : Result (Unit {0}) RunFault) → BuildsSigned named asked i o r → named ≡ origin → asked ≡ get
    → BuildsSigned origin get i o r
builds_signed origin named get asked i o r runs a b =
    subst (λ (n : List ℕ). BuildsSigned n get i o r) a (subst (λ (g : Option (List ℕ)). BuildsSigned named g i o r) b runs)

pub checks_file : (key text : List ℕ) (entry shown : Option (List ℕ)) (i o : Passage) (r : Result (Unit {0}) RunFault) → ChecksFile text shown i o r → text ≡ key → shown ≡ entry → ChecksFile key entry i o r
checks_file key text entry shown i o r runs a b =
    subst (λ (k : List ℕ). ChecksFile k entry i o r) a (subst (λ (e : Option (List ℕ)). ChecksFile text e i o r) b runs)

-- the same of runs with texts as they were given
pub runs_head : (origin named : List ℕ) (i o : Passage) (r : Result (Unit {0}) RunFault) → RunsHead named i o r → named ≡ origin → RunsHead origin i o r
runs_head origin named i o r runs a = subst (λ (n : List ℕ). RunsHead n i o r) a runs

pub builds_demo : (origin named secret told : List ℕ) (get asked : Option (List ℕ)) (i o : Passage) (r : Result (Unit {0}) RunFault) → BuildsDemo named told asked i o r → named ≡ origin → told ≡ secret → asked ≡ get
    → BuildsDemo origin secret get i o r
builds_demo origin named secret told get asked i o r runs a b c =
    subst (λ (n : List ℕ). BuildsDemo n secret get i o r) a
    (subst (λ (s : List ℕ). BuildsDemo named s get i o r) b (subst (λ (g : Option (List ℕ)). BuildsDemo named told g i o r) c runs))

pub runs_fork : (key text : List ℕ) (i o : Passage) (r : Result (Unit {0}) RunFault) → RunsFork text i o r → text ≡ key → RunsFork key i o r
runs_fork key text i o r runs a = subst (λ (k : List ℕ). RunsFork k i o r) a runs

pub runs_open : (key text : List ℕ) (i o : Passage) (r : Result (Unit {0}) RunFault) → RunsOpen text i o r → text ≡ key → RunsOpen key i o r
runs_open key text i o r runs a = subst (λ (k : List ℕ). RunsOpen k i o r) a runs
