-- What reading a job line hands back, by its head and its lists. Assumes nothing.
use Prim.Native.Nat.{ℕ, ◌-◌}
use mathlib.Core.Bool.{Bool, true, false, cond, ◌&&◌, false≢true}
use mathlib.Core.Path.{◌≡◌, refl, sym, ap, ◌∙◌, subst}
use mathlib.Core.List.{List}
use lib.ListN.{length, drop}
use lib.Ieee.{Float}
use Rattle.error.specs.declared.Refusal.{Refusal}
use Rattle.error.specs.declared.Refusal.TheVariants.{Granted, Job}
use Rattle.error.specs.Refusals.{granted, open_refusals}
use Rattle.format.specs.Fields.{fields, fields_from}
use Rattle.format.specs.JobLines.{coordinate_count, numbers_formed, job_of, ParsedJob, ill_formed, parse_job}
use Rattle.format.specs.Lines.{counts_of, floats_of}
use Rattle.format_job.specs.declared.Parsed.{Parsed}
use Rattle.format_job.specs.declared.head.Head.{Head}
use Rattle.format_job.specs.Reads.{parse_refusal, unparsed, parsed_all, answered_by, parse_answered, front_written, lengths_written, coordinates_written}
use Rattle.format_job.specs.Reads.{lists_formed, lists_refusal, ListsRead, is_outward, ring_number, head_fits, HeadOf}
use Rattle.format_job.proofs.Parses.{parse_is, job_no}
use Rattle.format_job.proofs.Shifts.{counts_same, coordinates_same, numbers_same, counts_size, coordinates_size, room_same, refusal_no, after_same}

-- the three promises of `parse_job`
abbrev pub Told : List ℕ → List ℕ → List ℕ → List Float → List Float → Parsed → Type 0
Told line lengths₀ lengths₁ coordinates₀ coordinates₁ x =
    record {
      answered : x ≡ parse_answered line lengths₀ coordinates₀;
      counted : lengths₁ ≡ lengths_written line lengths₀ coordinates₀;
      numbered : coordinates₁ ≡ coordinates_written line lengths₀ coordinates₀;
    }

none_given : (lengths : List ℕ) (coordinates : List Float) → parse_refusal ill_formed lengths coordinates ≡ Job
unfolding parse_refusal ill_formed open_refusals
none_given lengths coordinates = refl

module _ (line : List ℕ) where
  abbrev fs : List (List ℕ)
  fs = fields line

  abbrev r : ℕ
  r = ring_number line

  abbrev v : ParsedJob
  v = job_of fs (is_outward line) r

  parse_by : (t : Bool) → (head_fits line && numbers_formed fs r) ≡ t → parse_job line ≡ cond t v ill_formed
  parse_by t e = parse_is line ∙ ap (λ (b : Bool). cond b v ill_formed) e

  no_head : head_fits line ≡ false → (head_fits line && numbers_formed fs r) ≡ false
  no_head e = ap (λ (t : Bool). t && numbers_formed fs r) e

  lists_by : (t : Bool) → head_fits line ≡ true → lists_formed (drop 3 fs) r ≡ t → (head_fits line && numbers_formed fs r) ≡ t
  lists_by t h e = ap (λ (b : Bool). b && numbers_formed fs r) h ∙ sym (numbers_same fs r) ∙ e

  none_found : (lengths : List ℕ) (coordinates : List Float) → parse_job line ≡ ill_formed → parse_refusal (parse_job line) lengths coordinates ≡ Job
  none_found lengths coordinates e = ap (λ (p : ParsedJob). parse_refusal p lengths coordinates) e ∙ none_given lengths coordinates

  given_refusal : (lengths : List ℕ) (coordinates : List Float) → lists_formed (drop 3 fs) r ≡ true → parse_refusal v lengths coordinates ≡ lists_refusal (drop 3 fs) r lengths coordinates
  unfolding parse_refusal job_of coordinate_count open_refusals
  given_refusal lengths coordinates e = room_same fs 3 r lengths coordinates e

  refusal_by : (lengths : List ℕ) (coordinates : List Float) → head_fits line ≡ true → (t : Bool) → lists_formed (drop 3 fs) r ≡ t
      → parse_refusal (parse_job line) lengths coordinates ≡ lists_refusal (drop 3 fs) r lengths coordinates
  refusal_by lengths coordinates h true e =
      ap (λ (p : ParsedJob). parse_refusal p lengths coordinates) (parse_by true (lists_by true h e)) ∙ given_refusal lengths coordinates e
  refusal_by lengths coordinates h false e = none_found lengths coordinates (parse_by false (lists_by false h e)) ∙ refusal_no (drop 3 fs) r lengths coordinates e

  -- what is granted is well formed
  formed_by : (lengths : List ℕ) (coordinates : List Float) → granted (lists_refusal (drop 3 fs) r lengths coordinates) ≡ true → lists_formed (drop 3 fs) r ≡ true
  formed_by lengths coordinates g = go (lists_formed (drop 3 fs) r) refl
    where
      go : (t : Bool) → lists_formed (drop 3 fs) r ≡ t → lists_formed (drop 3 fs) r ≡ true
      go true e = e
      go false e = absurd (false≢true (sym job_no ∙ ap granted (refusal_no (drop 3 fs) r lengths coordinates e) ∙ g))

  -- a head that does not fit
  pub unread : (lengths : List ℕ) (coordinates : List Float) → head_fits line ≡ false
      → (x : Parsed) → x ≡ unparsed Job → Told line lengths lengths coordinates coordinates x
  unfolding parse_answered answered_by lengths_written coordinates_written front_written
  unread lengths coordinates f x p =
      let e : parse_refusal (parse_job line) lengths coordinates ≡ Job = none_found lengths coordinates (parse_by false (no_head f)) in
      record { answered = rw (e, job_no) p; counted = rw (e, job_no) refl; numbered = rw (e, job_no) refl }

  -- one that does, and the lists after it
  module _ (lengths₀ lengths₁ : List ℕ) (coordinates₀ coordinates₁ : List Float) (hd : Head) (h : HeadOf line hd) (y : Refusal) (count : ℕ)
      (l₀ : ListsRead (fields_from line hd.next) hd.rings lengths₀ lengths₁ coordinates₀ coordinates₁ y count) where
    l : ListsRead (drop 3 fs) r lengths₀ lengths₁ coordinates₀ coordinates₁ y count
    l =
        subst (λ (n : ℕ). ListsRead (drop 3 fs) n lengths₀ lengths₁ coordinates₀ coordinates₁ y count) h.rings_is
        (subst (λ (gs : List (List ℕ)). ListsRead gs hd.rings lengths₀ lengths₁ coordinates₀ coordinates₁ y count) h.rest l₀)

    abbrev asked : Refusal
    asked = lists_refusal (drop 3 fs) r lengths₀ coordinates₀

    same : parse_refusal (parse_job line) lengths₀ coordinates₀ ≡ asked
    same = refusal_by lengths₀ coordinates₀ h.fits (lists_formed (drop 3 fs) r) refl

    value_is : granted asked ≡ true → parse_job line ≡ v
    value_is g = parse_by true (lists_by true h.fits (formed_by lengths₀ coordinates₀ g))

    lengths_value : granted asked ≡ true → counts_of (drop 3 fs) 0 r ≡ (parse_job line).lengths
    unfolding job_of
    lengths_value g = counts_same fs 3 r ∙ sym (ap (λ (j : ParsedJob). j.lengths) (value_is g))

    coordinates_value : granted asked ≡ true → floats_of (drop 3 fs) r (length (drop 3 fs) - r) ≡ (parse_job line).coordinates
    unfolding job_of coordinate_count
    coordinates_value g = coordinates_same fs 3 r ∙ sym (ap (λ (j : ParsedJob). j.coordinates) (value_is g))

    lengths_are : lengths₁ ≡ lengths_written line lengths₀ coordinates₀
    unfolding lengths_written
    lengths_are =
        l.lengths_are
        ∙ after_same (granted asked) (counts_of (drop 3 fs) 0 r) (parse_job line).lengths lengths₀ lengths_value
        ∙ ap (λ (x : Refusal). front_written (granted x) (parse_job line).lengths lengths₀) (sym same)

    coordinates_are : coordinates₁ ≡ coordinates_written line lengths₀ coordinates₀
    unfolding coordinates_written
    coordinates_are =
        l.coordinates_are
        ∙ after_same (granted asked) (floats_of (drop 3 fs) r (length (drop 3 fs) - r)) (parse_job line).coordinates coordinates₀ coordinates_value
        ∙ ap (λ (x : Refusal). front_written (granted x) (parse_job line).coordinates coordinates₀) (sym same)

    read_by : (b : Bool) → granted y ≡ b → parse_answered line lengths₀ coordinates₀ ≡ cond b (parsed_all (parse_job line)) (unparsed y)
    unfolding parse_answered answered_by
    read_by b g =
        ap (λ (x : Refusal). cond (granted x) (parsed_all (parse_job line)) (unparsed x)) (same ∙ sym l.refusal_is)
        ∙ ap (λ (c : Bool). cond c (parsed_all (parse_job line)) (unparsed y)) g

    pub refused : (b : Bool) → b ≡ granted y → b ≡ false → (x : Parsed) → x ≡ unparsed y → Told line lengths₀ lengths₁ coordinates₀ coordinates₁ x
    refused b g f x p = record { answered = p ∙ sym (read_by false (sym g ∙ f)); counted = lengths_are; numbered = coordinates_are }

    given_by : (d : Float) (o : Bool) (n k : ℕ) → o ≡ v.outward → d ≡ v.distance → n ≡ length v.lengths → k ≡ length v.coordinates
        → ◌≡◌ {A = Parsed} (record { refusal = Granted; outward = o; distance = d; rings = n; count = k }) (parsed_all v)
    unfolding parsed_all
    given_by d o n k p q s u = rw (p, q, s, u) refl

    v_parts : granted y ≡ true → ◌≡◌ {A = Parsed} (record { refusal = Granted; outward = hd.outward; distance = hd.distance; rings = hd.rings; count = count }) (parsed_all v)
    unfolding job_of coordinate_count
    v_parts g =
        given_by hd.distance hd.outward hd.rings count h.outward_is h.distance_is (h.rings_is ∙ sym (counts_size fs 3 r))
        (l.count_is ∙ ap (λ (b : Bool). cond b (length (drop 3 fs) - r) 0) (ap granted (sym l.refusal_is) ∙ g) ∙ sym (coordinates_size fs 3 r))

    pub given : (b : Bool) → b ≡ granted y → b ≡ true
        → Told line lengths₀ lengths₁ coordinates₀ coordinates₁ (record { refusal = Granted; outward = hd.outward; distance = hd.distance; rings = hd.rings; count = count })
    given b g f =
        record {
          answered = v_parts (sym g ∙ f) ∙ sym (ap parsed_all (value_is (ap granted (sym l.refusal_is) ∙ sym g ∙ f))) ∙ sym (read_by true (sym g ∙ f));
          counted = lengths_are;
          numbered = coordinates_are;
        }
