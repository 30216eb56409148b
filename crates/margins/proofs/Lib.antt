-- The proof in short. A unit is 2 ^ -1074; R is 1 + distance + largest coordinate, and H the larger side of the edge, in units.
--  1. A float operation is off by half a place of its result, or half a unit: `Nearby`, `Operations` of math/proofs.
--  2. So the computed dot products of the edge and of the vector to p are off by R H / 2 ^ 46: `DotProduct`.
--  3. Their computed quotient, held between 0 and 1, satisfies the projection's equation up to R H / 2 ^ 44: `Clamp`, `Projection`,
--     `Quotient`. Where the edge is tiny against R, it is any fraction: `AnyFraction`.
--  4. A foot that nearly satisfies the equation is nearly the nearest point, by squares: `Foot`, `Apart`.
--  5. The computed vector to the foot is off by R / 2 ^ 46, both parts together: `FootVector`.
--  6. The computed gap is the rounded root of that vector's square: `Gaps`, from `HypotIsNearest`.
--  7. With a point of the edge nearer than the margin the gap would be shorter than the distance less the tolerance: `Lengths`, `TooShort`,
--     `ExactEdge`. That number is computed to within a thousandth of the tolerance: `Tolerance`, `Reached`.
--  8. Such a point also bounds p, so every number stays finite, and the edge is long or tiny: `ComputedEdge`, `OneEdge`, `Points`.
-- `Units` and `Nearest` prove the other statements of specs/Far.antt: units are what the bits say, and no point of the edge is missed.
-- Assumes nothing.
pub mod Scale
pub mod DotProduct
pub mod FootVector
pub mod Foot
pub mod Clamp
pub mod Projection
pub mod Quotient
pub mod AnyFraction
pub mod Apart
pub mod Lengths
pub mod TooShort
pub mod ExactEdge
pub mod Values
pub mod Gaps
pub mod ComputedEdge
pub mod OneEdge
pub mod Points
pub mod Tolerance
pub mod Reached
pub mod Units
pub mod Nearest
pub mod Examples
