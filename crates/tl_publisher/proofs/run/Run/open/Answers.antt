use Rattle.std.proofs.Common.{◌≡◌, ◌<◌, ◌^◌, ◌∙◌, [], List, ℕ, ap, length, refl, subst, sym, take, arith}
use Rattle.std.proofs.Math.Seq.{take-length}
use Rattle.sha2.specs.Sha256.{sha256}
use Rattle.tl_sequencer.specs.Log.{Log, entries_of}
use Rattle.tl_log.specs.Histories.{Prefix, AreOf, last_size}
use Rattle.tl_publisher.specs.Boards.{Board}
use Rattle.tl_publisher.specs.Grown.{Grown, IsGrown}
use Rattle.tl_publisher.specs.Running.{IsRunning}
use Rattle.tl_publisher.proofs.run.Run.open.Goals as goal

-- a log of which nothing was published runs
opens_running : {A : Type 0} (log : Log A) (growth : Grown) (board : Board) → log.limit < 2 ^ 32
    → IsGrown sha256 0 (entries_of log) growth → board.past.log ≡ [] → IsRunning log growth board
opens_running log growth board few grown none =
    let entries : List (List ℕ) = entries_of log in
    let size : growth.edge.size ≡ length entries = sym grown.edge.0 in
    let front : take growth.edge.size entries ≡ entries = ap (λ (n : ℕ). take n entries) size ∙ take-length entries in
    record {
      few = few;
      within = omega (arith, size);
      published = subst (λ (past : List Prefix). AreOf entries past) (sym none) (λ k d less. absurd (omega (arith, less)));
      growth = subst (λ (past : List Prefix). IsGrown sha256 (last_size past) (take growth.edge.size entries) growth) (sym none)
          (subst (λ (es : List (List ℕ)). IsGrown sha256 0 es growth) (sym front) grown);
    }

pub returns : goal.returns
returns g c = (refl, c.in_ok-board.ensures.0)

pub invariant_of-result : goal.invariant_of-result
invariant_of-result g c =
    opens_running c.args.log c.args.growth c.in_ok-board.board c.requires.few c.requires.grown c.in_ok-board.ensures.0
