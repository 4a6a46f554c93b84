-- Promise. The limits of a frame, and what stays of it when its starts or its good states change.
use Rattle.std.specs.Prelude.{◌≡◌, ◌^◌, ◌<◌, ◌≤◌}
use Rattle.omega.specs.Automata.{most_signals}
use Rattle.tables.specs.Cells.{most_table_states}
use Rattle.tables.specs.declared.frame.Frame.{Frame}

-- few states, few signals, and no start or good state that is no state
pub record IsWithinLimits (x : Frame) : Type 0 where
  pub few : x.states ≤ most_table_states
  pub narrow : x.signals ≤ most_signals
  pub starts_in : x.starts < 2 ^ x.states
  pub goods_in : x.goods < 2 ^ x.states

-- two frames that differ at most in their starts
pub record SameButStarts (old new : Frame) : Type 0 where
  pub states : new.states ≡ old.states
  pub signals : new.signals ≡ old.signals
  pub goods : new.goods ≡ old.goods

-- two frames that differ at most in their good states
pub record SameButGoods (old new : Frame) : Type 0 where
  pub states : new.states ≡ old.states
  pub signals : new.signals ≡ old.signals
  pub starts : new.starts ≡ old.starts
