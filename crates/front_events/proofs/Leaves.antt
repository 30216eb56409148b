-- The event that was found, by what the code tests. Assumes nothing.
use Prim.Native.Nat.{ℕ}
use mathlib.Core.Path.{◌≡◌, refl, sym}
use mathlib.Core.Bool.{Bool, true, false, not, false≢true, ◌&&◌, ◌||◌}
use lib.Ieee.{Float, lt}
use Rattle.math.specs.Number
use Rattle.math.specs.Number.{zero_float, one, div, fmax, mul, add}
use Rattle.front.specs.declared.Event.TheVariants.{Never, Collapse, Split}
use Rattle.front.specs.Thresholds.{tie}
use Rattle.front.specs.NextEvent.{choose, event_of}
use Rattle.front_events.specs.Found.{collapse_of, split_of, search_of}

module _ (t : Float) (b : Bool) (k : ℕ) (soon : Float) (d : Bool) (v e : ℕ) (step : Float) where
  abbrev sooner_by : Bool
  sooner_by = lt step (Number.sub soon (mul tie (add one t)))

  pub event_split : d && (not b || sooner_by) ≡ true → Split v e step ≡ event_of t (search_of b k soon d v e step)
  unfolding event_of search_of collapse_of split_of choose
  event_split h = go b d h
    where
      go : (b d : Bool) → d && (not b || sooner_by) ≡ true → Split v e step ≡ event_of t (search_of b k soon d v e step)
      go b false h = absurd (false≢true h)
      go false true h = refl
      go true true h = rw h refl

  pub event_collapse : d && (not b || sooner_by) ≡ false → b ≡ true → Collapse k soon ≡ event_of t (search_of b k soon d v e step)
  unfolding event_of search_of collapse_of split_of choose
  event_collapse h i = go b d h i
    where
      go : (b d : Bool) → d && (not b || sooner_by) ≡ false → b ≡ true → Collapse k soon ≡ event_of t (search_of b k soon d v e step)
      go false d h i = absurd (false≢true i)
      go true false h i = refl
      go true true h i = rw h refl

  pub event_never : d && (not b || sooner_by) ≡ false → b ≡ false → Never ≡ event_of t (search_of b k soon d v e step)
  unfolding event_of search_of collapse_of split_of choose
  event_never h i = go b d h i
    where
      go : (b d : Bool) → d && (not b || sooner_by) ≡ false → b ≡ false → Never ≡ event_of t (search_of b k soon d v e step)
      go true d h i = absurd (false≢true (sym i))
      go false true h i = absurd (false≢true (sym h))
      go false false h i = refl
