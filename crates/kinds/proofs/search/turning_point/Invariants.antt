use Rattle.std.proofs.Common.{ℕ, suc, ◌≡◌, ◌-◌, ◌<◌, ◌≤◌, true, false}
use Rattle.kinds.proofs.search.turning_point.Given as goal

abbrev pub invariant-loop-low : goal.invariant-loop-low
invariant-loop-low g l = record {
  order : l.low ≤ l.high;
  within : l.high ≤ l.n;
  before : (i : ℕ) → suc i ≡ l.low → goal.F-post g l.test i true;
  behind : l.high < l.n → goal.F-post g l.test l.high false;
}

abbrev pub decreases-loop-low : goal.decreases-loop-low
decreases-loop-low g l = l.high - l.low
