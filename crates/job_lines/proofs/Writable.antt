-- What a job hands back can always be written: an accepted shape passes 21. Assumes nothing.
use mathlib.Core.Bool.{Bool, true, false, not, ◌||◌}
use mathlib.Core.Path.{◌≡◌, refl}
use Rattle.error.specs.Refusals.{granted}
use Rattle.region.specs.declared.RegionOffset.{RegionOffset}
use Rattle.region.specs.Checks.{proper_region}
use Rattle.job.specs.Jobs.{job}
use Rattle.job.proofs.Sizes.{job_proper}
use Rattle.job_answer.specs.Writing.{writable}
use Rattle.job_lines.specs.Wire.{JobWritable}

passes : (a : RegionOffset) → (granted a.refusal ≡ true → proper_region a.shape ≡ true) → writable a ≡ true
unfolding writable
passes a h = go (granted a.refusal) refl
  where
    go : (t : Bool) → granted a.refusal ≡ t → (not t || proper_region a.shape) ≡ true
    go true e = h e
    go false e = refl

pub job_writable : JobWritable
job_writable outward d lengths ps = passes (job outward d lengths ps) (job_proper outward d lengths ps)
