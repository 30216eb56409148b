-- The rings of a front, told by its links alone: of each slot its next, its previous, and whether it is live. Assumes nothing.
use Rattle.std.specs.Prelude.{◌≡◌, ◌≢◌, Bool, true, false, List, ℕ, zero, suc, ◌≤◌, ◌<◌}
use Rattle.front.specs.declared.Edge.{Edge}
use Rattle.front.specs.Edges.{edge}

-- of each slot its next, its previous, and whether it is live: 1 if it is, 0 if not
pub record Links : Type 0 where
  pub next : ℕ → ℕ
  pub prev : ℕ → ℕ
  pub live : ℕ → ℕ

abbrev pub bit : Bool → ℕ
bit true = 1
bit false = 0

-- the links of a front
abbrev pub links : List Edge → Links
links f = record { next = λ s. (edge f s).next; prev = λ s. (edge f s).previous; live = λ s. bit (edge f s).alive }

-- ---- an edge in its ring

-- i steps from next to next
unfoldable pub along : (ℕ → ℕ) → ℕ → ℕ → ℕ
along next zero a = a
along next (suc i) a = along next i (next a)

-- "An edge is in one closed ring of three or more, linked both ways, when going from next to next passes live edges only and first comes
-- back to it after three steps or more, and it is the previous of its next and the next of its previous."
pub record InRing (L : Links) (x : ℕ) : Type 0 where
  pub steps : ℕ
  pub three : 3 ≤ steps
  pub closed : along L.next steps x ≡ x
  pub first : (i : ℕ) → 0 < i → i < steps → along L.next i x ≢ x
  pub lives : (i : ℕ) → L.live (along L.next i x) ≡ 1
  pub forth : L.prev (L.next x) ≡ x
  pub back : L.next (L.prev x) ≡ x

-- each live edge is
abbrev pub InRings : List Edge → Type 0
InRings f = (x : ℕ) → (links f).live x ≡ 1 → InRing (links f) x

-- ---- what an event does to the links

-- f, but for the value v at i
pub record Stored (f f' : ℕ → ℕ) (i v : ℕ) : Type 0 where
  pub here : f' i ≡ v
  pub there : (s : ℕ) → s ≢ i → f' s ≡ f s

-- the edge x is taken out: its neighbours are linked to each other, and it is live no more
pub record Removed (next prev live next' prev' live' : ℕ → ℕ) (x : ℕ) : Type 0 where
  pub nexts : Stored next next' (prev x) (next x)
  pub prevs : Stored prev prev' (next x) (prev x)
  pub lives : Stored live live' x 0

-- the start vertex of the edge v meets the edge e, whose copy takes the slot s and is live from then on: e runs on to v, and what came
-- before v runs on to what came after e
pub record Split (next prev live next' prev' live' : ℕ → ℕ) (v e s : ℕ) : Type 0 where
  pub next_before : next' (prev v) ≡ s
  pub next_copy : next' s ≡ next e
  pub next_hit : next' e ≡ v
  pub next_else : (t : ℕ) → t ≢ prev v → t ≢ s → t ≢ e → next' t ≡ next t
  pub prev_copy : prev' s ≡ prev v
  pub prev_after : prev' (next e) ≡ s
  pub prev_vertex : prev' v ≡ e
  pub prev_else : (t : ℕ) → t ≢ s → t ≢ next e → t ≢ v → prev' t ≡ prev t
  pub lives : Stored live live' s 1

abbrev pub Out : Links → Links → ℕ → Type 0
Out L M x = Removed L.next L.prev L.live M.next M.prev M.live x

abbrev pub Met : Links → Links → ℕ → ℕ → ℕ → Type 0
Met L M v e s = Split L.next L.prev L.live M.next M.prev M.live v e s

-- opens every definition above, for a proof that computes with all of them
unfoldable pub open_links : Unit {0}
unfolding along
open_links = tt
