-- Walks over a region's holes that end at the first ring that is not clear. Assumes nothing.
use Prim.Native.Nat.{ℕ, ◌*◌}
use mathlib.Core.Path.{◌≡◌, refl, sym, ap, ◌∙◌}
use mathlib.Core.Bool.{Bool, true, false, not, ◌&&◌}
use mathlib.Core.List.{List}
use borrow.Author.Tests.{not-true, not-false}
use lib.ListN.{get_or, drop}
use lib.Ieee.{Float}
use Rattle.base.specs.Loop.{rounds}
use Rattle.base.proofs.Laws.{still, rounds_same}
use Rattle.region.specs.declared.Region.{Region}
use Rattle.region.specs.Regions.{hole_points, hole_count, region_of}
use Rattle.region.specs.Insets.{region_keeps_clear, crosses}
use Rattle.offset_clear.specs.Rings.{ring_stays_clear}
use Rattle.region_clear.specs.Apart.{hole_apart_step, ring_apart, region_apart_step, region_apart}
use Rattle.region_clear.proofs.Pairs.{apart_is}

-- the ring qs against hole k, and hole k of a second region against the first
abbrev pub hole_clear : Float → List Float → List ℕ → List Float → ℕ → ℕ → Bool
hole_clear least hs cs qs m k = ring_stays_clear true least (drop (64 * k) hs) (get_or cs k 0) qs m

abbrev pub hole_apart : Float → Region → List Float → List ℕ → ℕ → Bool
hole_apart least r gs ds k = ring_apart least r (drop (64 * k) gs) (get_or ds k 0)

-- ---- a walk whose body asks one test more each round, `s && test k`, after the test b
module _ (f : ℕ → Bool → Bool) (test : ℕ → Bool) (body : (k : ℕ) (s : Bool) → f k s ≡ (s && test k)) (b x : Bool) (e : x ≡ b) (n : ℕ) where
  first_fails : not x ≡ true → false ≡ rounds f n b
  first_fails h = rw (sym e ∙ not-true x h) (sym (still f false (λ (k : ℕ). body k false) n))

  -- the rounds of a walk that asks these tests alone
  goes_on : not x ≡ false → rounds (λ (k : ℕ) (s : Bool). s && test k) n true ≡ rounds f n b
  goes_on h = rounds_same _ f n true (λ k l s. sym (body k s)) ∙ ap (rounds f n) (sym (sym e ∙ not-false x h))

-- ---- one ring against the rings of a region
module _ (least : Float) (ps : List Float) (n : ℕ) (hs : List Float) (cs : List ℕ) (h : ℕ) (qs : List Float) (m : ℕ) (x : Bool) (e : x ≡ ring_stays_clear false least ps n qs m) where
  pub ring_first_fails : not x ≡ true → false ≡ ring_apart least (region_of ps n hs cs h) qs m
  unfolding ring_apart hole_apart_step hole_points hole_count region_of
  ring_first_fails = first_fails _ (hole_clear least hs cs qs m) (λ (j : ℕ) (s : Bool). refl) _ x e h

  pub ring_told : not x ≡ false → (r : Bool) → r ≡ rounds (λ (k : ℕ) (s : Bool). s && hole_clear least hs cs qs m k) h true → r ≡ ring_apart least (region_of ps n hs cs h) qs m
  unfolding ring_apart hole_apart_step hole_points hole_count region_of
  ring_told t r i = i ∙ goes_on _ (hole_clear least hs cs qs m) (λ (j : ℕ) (s : Bool). refl) _ x e h t

-- ---- the rings of a second region against those of the first
module _ (least : Float) (r : Region) (qs : List Float) (m : ℕ) (gs : List Float) (ds : List ℕ) (g : ℕ) where
  abbrev clear : Bool
  clear = region_keeps_clear least r (region_of qs m gs ds g) && not (crosses r (region_of qs m gs ds g))

  module _ (x : Bool) (e : x ≡ ring_apart least r qs m) where
    pub rings_first_fail : not x ≡ true → false ≡ clear
    unfolding region_apart region_apart_step hole_points hole_count region_of
    rings_first_fail t = first_fails _ (hole_apart least r gs ds) (λ (j : ℕ) (s : Bool). refl) _ x e g t ∙ apart_is least r (region_of qs m gs ds g)

    pub rings_told : not x ≡ false → (b : Bool) → b ≡ rounds (λ (k : ℕ) (s : Bool). s && hole_apart least r gs ds k) g true → b ≡ clear
    unfolding region_apart region_apart_step hole_points hole_count region_of
    rings_told t b i = i ∙ goes_on _ (hole_apart least r gs ds) (λ (j : ℕ) (s : Bool). refl) _ x e g t ∙ apart_is least r (region_of qs m gs ds g)
