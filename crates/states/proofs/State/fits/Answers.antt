-- `states::State::fits` meets its contract.
-- Assumes nothing.
use mathlib.Core.Logic.{inl, inr}
use native.Mathlib.Omega.{arith}
use Rattle.states.specs.States.{state_is}
use Rattle.states.proofs.Laws.{fits_detached, bad-flag, bad_kind, fits-empty, fits-filled}
use Rattle.states.proofs.State.fits.Goals as goal

pub returns-then-self-eq1 : goal.returns-then-self-eq1
unfolding state_is
returns-then-self-eq1 c = fits_detached (state_is c.args.self) c.if-self-eq1.true

pub returns-then-self-gt1 : goal.returns-then-self-gt1
unfolding state_is
returns-then-self-gt1 c = bad-flag (state_is c.args.self) c.if-self-eq1.false (λ q. omega arith)

pub returns-then-self-lt1 : goal.returns-then-self-lt1
unfolding state_is
returns-then-self-lt1 c = bad_kind (state_is c.args.self) c.if-self-eq1.false (inl c.if-self-lt1.true)

pub returns-then-self-gt4 : goal.returns-then-self-gt4
unfolding state_is
returns-then-self-gt4 c = bad_kind (state_is c.args.self) c.if-self-eq1.false (inr c.if-self-gt4.true)

pub returns-then-self-eq0 : goal.returns-then-self-eq0
unfolding state_is
returns-then-self-eq0 c =
    fits-empty (state_is c.args.self) c.if-self-eq1.false (omega arith) c.if-self-lt1.false c.if-self-gt4.false c.if-self-eq0.true

pub returns : goal.returns
unfolding state_is
returns c =
    fits-filled (state_is c.args.self) c.if-self-eq1.false (omega arith) c.if-self-lt1.false c.if-self-gt4.false c.if-self-eq0.false
