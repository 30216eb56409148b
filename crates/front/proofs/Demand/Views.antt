-- What a store into the front does to its links.
use mathlib.Core.Path.{◌≡◌, refl, sym, ap, ◌∙◌}
use mathlib.Core.Logic.{◌≢◌}
use mathlib.Core.Bool.{Bool, true, false, cond}
use mathlib.Core.List.{List}
use Prim.Native.Nat.{ℕ, ◌≤◌, ◌<◌}
use native.Mathlib.Omega.{arith}
use native.Mathlib.Decide.{dec_lt}
use lib.Dec.{ltb}
use lib.Ieee.{Float}
use lib.ListN.{length, set, length-set}
use lib.Seq.{get_or-set_same, get_or-set_other}
use Rattle.base.proofs.Choices.{by_cases}
use Rattle.plane.specs.declared.PlanarPoint.{PlanarPoint}
use Rattle.front.specs.declared.Edge.{Edge}
use Rattle.front.specs.Edges.{unused, blank, edge, on_line_of, with_next, with_previous, with_start, dead, set_next, set_previous, set_start, kill, unlinked, remove}
use Rattle.front.specs.Splitting.{copy_of, cut, split_linked}
use Rattle.front.specs.Links.{bit, links, Out, Met, Stored}
use Rattle.front.proofs.EdgeLaws.{edge_in, edge_out}
use Rattle.front.proofs.Demand.Links.{Same}
use Rattle.front.proofs.Demand.Sets.{SetNext, SetPrev, SetDead, Put, out_by_sets, met_by_sets}

-- ---- an edge of the front

pub edge_here : (f : List Edge) (s : ℕ) (e : Edge) → length f ≡ 128 → s < 128 → edge (set f s e) s ≡ e
edge_here f s e l h = edge_in (set f s e) s h ∙ get_or-set_same f s e blank (omega arith)

pub edge_there : (f : List Edge) (s r : ℕ) (e : Edge) → r ≢ s → edge (set f s e) r ≡ edge f r
unfolding edge
edge_there f s r e d = ap (λ (x : Edge). cond (ltb r 128) x unused) (get_or-set_other f s r e blank d)

pub dead_out : (f : List Edge) (s : ℕ) → 128 ≤ s → (links f).live s ≡ 0
dead_out f s h = ap (λ (e : Edge). bit e.alive) (edge_out f s h)

pub live_in : (f : List Edge) (s : ℕ) → (links f).live s ≡ 1 → s < 128
live_in f s a = go (dec_lt s 128)
  where
    go : Dec (s < 128) → s < 128
    go (yes h) = h
    go (no h) = absurd (omega (arith, dead_out f s (omega arith)))

pub live_bit : (b : Bool) → bit b ≤ 1
live_bit true = omega arith
live_bit false = omega arith

pub alive_of : (b : Bool) → bit b ≡ 1 → b ≡ true
alive_of true q = refl
alive_of false q = absurd (omega arith)

-- ---- one store

module _ (f : List Edge) (l : length f ≡ 128) (s : ℕ) where
  -- a field that the stored edge has as before is as before in every slot
  keep : (g : Edge → ℕ) (e : Edge) → g e ≡ g (edge f s) → (r : ℕ) → g (edge (set f s e) r) ≡ g (edge f r)
  keep g e q r = by_cases r s
      (λ k. ap (λ (i : ℕ). g (edge (set f s e) i)) k ∙ inside (dec_lt s 128) ∙ ap (λ (i : ℕ). g (edge f i)) (sym k))
      (λ d. ap g (edge_there f s r e d))
    where
      inside : Dec (s < 128) → g (edge (set f s e) s) ≡ g (edge f s)
      inside (yes h) = ap g (edge_here f s e l h) ∙ q
      inside (no h) = ap g (edge_out (set f s e) s (omega arith) ∙ sym (edge_out f s (omega arith)))

  -- a field that the stored edge has anew is new in its slot alone
  anew : (g : Edge → ℕ) (e : Edge) → s < 128 → Stored (λ r. g (edge f r)) (λ r. g (edge (set f s e) r)) s (g e)
  anew g e h = record { here = ap g (edge_here f s e l h); there = λ r d. ap g (edge_there f s r e d) }

  abbrev N : Edge → ℕ
  N e = e.next

  abbrev P : Edge → ℕ
  P e = e.previous

  abbrev A : Edge → ℕ
  A e = bit e.alive

  pub next_set : (v : ℕ) → s < 128 → SetNext (links f) (links (set_next f s v)) s v
  unfolding set_next with_next on_line_of
  next_set v h =
      let e : Edge = with_next (edge f s) v in
      record { nexts = anew N e h; prevs = keep P e refl; lives = keep A e refl }

  pub previous_set : (v : ℕ) → s < 128 → SetPrev (links f) (links (set_previous f s v)) s v
  unfolding set_previous with_previous on_line_of
  previous_set v h =
      let e : Edge = with_previous (edge f s) v in
      record { nexts = keep N e refl; prevs = anew P e h; lives = keep A e refl }

  pub dead_set : s < 128 → SetDead (links f) (links (kill f s)) s
  unfolding kill dead on_line_of
  dead_set h =
      let e : Edge = dead (edge f s) in
      record { nexts = keep N e refl; prevs = keep P e refl; lives = anew A e h }

  pub start_same : (p : PlanarPoint) (t : Float) → Same (links f) (links (set_start f s p t))
  unfolding set_start with_start on_line_of
  start_same p t =
      let e : Edge = with_start (edge f s) p t in
      record { nexts = keep N e refl; prevs = keep P e refl; lives = keep A e refl }

  pub put_set : (e : Edge) → e.alive ≡ true → s < 128 → Put (links f) (links (set f s e)) s e.next e.previous
  put_set e a h = record {
    nexts = anew N e h;
    prevs = anew P e h;
    lives = record { here = ap A (edge_here f s e l h) ∙ ap bit a; there = λ r d. ap A (edge_there f s r e d) };
  }

pub set_length : (f : List Edge) (s : ℕ) (e : Edge) → length f ≡ 128 → length (set f s e) ≡ 128
set_length f s e l = length-set f s e ∙ l

pub next_length : (f : List Edge) (s v : ℕ) → length f ≡ 128 → length (set_next f s v) ≡ 128
unfolding set_next
next_length f s v l = set_length f s (with_next (edge f s) v) l

pub previous_length : (f : List Edge) (s v : ℕ) → length f ≡ 128 → length (set_previous f s v) ≡ 128
unfolding set_previous
previous_length f s v l = set_length f s (with_previous (edge f s) v) l

pub kill_length : (f : List Edge) (s : ℕ) → length f ≡ 128 → length (kill f s) ≡ 128
unfolding kill
kill_length f s l = set_length f s (dead (edge f s)) l

pub start_length : (f : List Edge) (s : ℕ) (p : PlanarPoint) (t : Float) → length f ≡ 128 → length (set_start f s p t) ≡ 128
unfolding set_start
start_length f s p t l = set_length f s (with_start (edge f s) p t) l

-- ---- remove

pub remove_length : (f : List Edge) (x : ℕ) → length f ≡ 128 → length (remove f x) ≡ 128
unfolding remove unlinked
remove_length f x l = kill_length _ _ (previous_length _ _ _ (next_length _ _ _ l))

pub remove_out : (f : List Edge) (x : ℕ) → length f ≡ 128 → x < 128 → (edge f x).previous < 128 → (edge f x).next < 128 → Out (links f) (links (remove f x)) x
unfolding remove unlinked
remove_out f x l hx hp hn =
    let l₁ = next_length f (edge f x).previous (edge f x).next l in
    out_by_sets _ _ _ _ x (next_set f l _ _ hp) (previous_set _ l₁ _ _ hn) (dead_set _ (previous_length _ _ _ l₁) x hx)

-- ---- a split: the vertex v, the edge e that it hits, the slot s

pub split_length : (f : List Edge) (v e s before : ℕ) (hit : Edge) (p : PlanarPoint) (t : Float) → length f ≡ 128 → length (split_linked f v e s before hit p t) ≡ 128
unfolding split_linked cut
split_length f v e s before hit p t l = start_length _ _ _ _ (previous_length _ _ _ (next_length _ _ _ (previous_length _ _ _ (next_length _ _ _ (set_length f s (copy_of hit before p t) l)))))

pub split_met : (f : List Edge) (v e s : ℕ) (p : PlanarPoint) (t : Float) → length f ≡ 128
    → s < 128 → (edge f v).previous < 128 → (edge f e).next < 128 → e < 128 → v < 128
    → (edge f v).previous ≢ s → (edge f e).next ≢ s → e ≢ s → v ≢ s → (edge f v).previous ≢ e → (edge f e).next ≢ v
    → Met (links f) (links (split_linked f v e s (edge f v).previous (edge f e) p t)) v e s
unfolding split_linked cut copy_of on_line_of
split_met f v e s p t l hs hb hn he hv bs ns es vs be nv =
    let before : ℕ = (edge f v).previous in
    let after : ℕ = (edge f e).next in
    let copy : Edge = copy_of (edge f e) before p t in
    let l₀ = set_length f s copy l in
    let l₁ = next_length (set f s copy) before s l₀ in
    let l₂ = previous_length (set_next (set f s copy) before s) after s l₁ in
    met_by_sets _ _ _ _ _ _ _ v e s (put_set f l s copy refl hs) (next_set _ l₀ _ _ hb) (previous_set _ l₁ _ _ hn) (next_set _ l₂ _ _ he)
    (previous_set _ (next_length _ _ _ l₂) _ _ hv) (start_same _ (previous_length _ _ _ (next_length _ _ _ l₂)) v p t)
    bs ns es vs be nv
