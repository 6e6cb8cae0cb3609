-- The choice goes over the line place by place: each place is passed over, is met as stained, or is taken where it goes before what was chosen.
-- Assumes nothing.
use Rattle.std.specs.Prelude.{Some, None, Ok, Err}
use mathlib.Core.Path.{◌≡◌, refl, sym, ◌∙◌, ap, subst}
use mathlib.Core.Logic.{⊎_elim}
use Prim.Native.Nat.{ℕ, ◌+◌, ◌≤◌, ◌<◌}
use mathlib.Core.Bool.{Bool, true, false}
use mathlib.Core.List.{List}
use native.Mathlib.Omega.{arith}
use lib.ListN.{get_or}
use lib.IntN.{ℤ}
use lib.Signed.{lt_z}
use Rattle.hash.specs.Bytes.{Id, lt_id, pick}
use Rattle.hash.proofs.Tests.{by_cases, clash, not_yes}
use Rattle.date.specs.declared.Seconds.{Seconds}
use Rattle.odb.specs.Store.{store_is_ok}
use Rattle.hashtable.specs.Marks.{frontier}
use Rattle.hashtable.specs.Table.{id_of}
use Rattle.walk.specs.Lookup.{world_of, seconds_for}
use Rattle.reading.specs.Tip.{GivesSeconds}
use Rattle.reading.proofs.Tips.{seconds-right}
use Rattle.stain.specs.Stain.{is_stained}
use Rattle.reach.proofs.Growth.{same_id?, last-place}
use Rattle.parting.specs.declared.Tangled.{Tangled}
use Rattle.parting.specs.First.{goes_first}
use Rattle.parting.specs.Choice.{Choice, both_at, stain_at, met_of, GoesFirst, FirstOfTwo, Sooner, TakesSooner, ChoosesNext, Knotted, id_at, Picked, ToldChoice, Chooses}
use Rattle.parting.proofs.Firsts.{by-seconds, by-later, by-id, first_trans, first-total}

-- ---- which goes first

module _ {width : ℕ} {s : List ℕ} (names : List ℕ) (x y : ℕ) {a b : Id} {u v : Seconds} (ea : a ≡ id_of width names x) (eb : b ≡ id_of width names y) (gu : GivesSeconds width s a u) (gv : GivesSeconds width s b v) where
  ours : store_is_ok width s ≡ true → (g : List ℕ) → u.0 ≡ seconds_for (world_of width s g) (id_of width names x)
  ours ok g = seconds-right gu ok g ∙ ap (seconds_for (world_of width s g)) ea

  theirs : store_is_ok width s ≡ true → (g : List ℕ) → v.0 ≡ seconds_for (world_of width s g) (id_of width names y)
  theirs ok g = seconds-right gv ok g ∙ ap (seconds_for (world_of width s g)) eb

  later : {t : Bool} → t ≡ lt_z v.0 u.0 → store_is_ok width s ≡ true → (g : List ℕ) → lt_z (seconds_for (world_of width s g) (id_of width names y)) (seconds_for (world_of width s g) (id_of width names x)) ≡ t
  later e ok g = sym (e ∙ ap (λ (z : ℤ). lt_z z u.0) (theirs ok g) ∙ ap (λ (z : ℤ). lt_z (seconds_for (world_of width s g) (id_of width names y)) z) (ours ok g))

  sooner-then : {t : Bool} → t ≡ lt_z u.0 v.0 → store_is_ok width s ≡ true → (g : List ℕ) → lt_z (seconds_for (world_of width s g) (id_of width names x)) (seconds_for (world_of width s g) (id_of width names y)) ≡ t
  sooner-then e ok g = sym (e ∙ ap (λ (z : ℤ). lt_z z v.0) (ours ok g) ∙ ap (λ (z : ℤ). lt_z (seconds_for (world_of width s g) (id_of width names x)) z) (theirs ok g))

  pub first_later : {t : Bool} → t ≡ lt_z v.0 u.0 → t ≡ true → GoesFirst width s names x y true
  first_later e p = record { right = λ ok g. sym (by-seconds (world_of width s g) (id_of width names x) (id_of width names y) (later e ok g ∙ p)) }

  pub first-not : {t r : Bool} → t ≡ lt_z v.0 u.0 → t ≡ false → r ≡ lt_z u.0 v.0 → r ≡ true → GoesFirst width s names x y false
  first-not e p f q = record { right = λ ok g. sym (by-later (world_of width s g) (id_of width names x) (id_of width names y) (later e ok g ∙ p) (sooner-then f ok g ∙ q)) }

  pub first-by-id : {t r i : Bool} → t ≡ lt_z v.0 u.0 → t ≡ false → r ≡ lt_z u.0 v.0 → r ≡ false → i ≡ lt_id a b → GoesFirst width s names x y i
  first-by-id e p f q h = record {
    right = λ ok g.
        h ∙ ap (λ (z : Id). lt_id z b) ea ∙ ap (lt_id (id_of width names x)) eb
        ∙ sym (by-id (world_of width s g) (id_of width names x) (id_of width names y) (later e ok g ∙ p) (sooner-then f ok g ∙ q));
  }

-- ---- a best one is met

pub sooner-none : (width : ℕ) (s names : List ℕ) {past : Choice} (slot : ℕ) → past ≡ Ok None → TakesSooner width s names past slot (Ok (Some slot))
sooner-none width s names slot e = record { told = subst (λ (c : Choice). Sooner width s names c slot (Ok (Some slot))) (sym e) refl }

pub sooner_knot : (width : ℕ) (s names : List ℕ) {past : Choice} {x : Tangled} (slot : ℕ) → past ≡ Err x → TakesSooner width s names past slot (Ok (Some slot))
sooner_knot width s names slot e = record { told = subst (λ (c : Choice). Sooner width s names c slot (Ok (Some slot))) (sym e) refl }

module _ {width : ℕ} {s names : List ℕ} {past : Choice} {slot other : ℕ} {t : Bool} (f : GoesFirst width s names slot other t) (e : past ≡ Ok (Some other)) where
  taken_as : (r : Choice) → r ≡ Ok (Some (pick t slot other)) → TakesSooner width s names past slot r
  taken_as r z = record { told = subst (λ (c : Choice). Sooner width s names c slot r) (sym e) (record { by = t; goes = f; is = z }) }

  pub sooner-new : t ≡ true → TakesSooner width s names past slot (Ok (Some slot))
  sooner-new p = taken_as (Ok (Some slot)) (ap (λ (b : Bool). Ok (Some (pick b slot other))) (sym p))

  pub sooner-old : t ≡ false → TakesSooner width s names past slot (Ok (Some other))
  sooner-old p = taken_as (Ok (Some other)) (ap (λ (b : Bool). Ok (Some (pick b slot other))) (sym p))

-- ---- one place

module _ (width : ℕ) (s names marks levels : List ℕ) (slot : ℕ) {m : ℕ} {b : Bool} (e : m ≡ get_or marks slot 0) (f : b ≡ frontier m) where
  both : frontier (get_or marks slot 0) ≡ b
  both = ap frontier (sym e) ∙ sym f

  pub next-passed : (past : Choice) → b ≡ false → ChoosesNext width s names marks levels past slot past
  next-passed past t = record { passed = λ h. refl; met = λ h. clash h (both ∙ t); taken = λ h. clash h (both ∙ t) }

  pub next-met : {past r : Choice} {c : Bool} → b ≡ true → c ≡ is_stained levels slot → c ≡ true → r ≡ met_of past → ChoosesNext width s names marks levels past slot r
  next-met t i p q = record { passed = λ h. clash (both ∙ t) h; met = λ h k. q; taken = λ h k. clash (sym i ∙ p) k }

  pub next-taken : {past r : Choice} {c : Bool} → b ≡ true → c ≡ is_stained levels slot → c ≡ false → TakesSooner width s names past slot r → ChoosesNext width s names marks levels past slot r
  next-taken t i p q = record { passed = λ h. clash (both ∙ t) h; met = λ h k. clash k (sym i ∙ p); taken = λ h k. q.told }

-- ---- one more

module _ (width : ℕ) (s names marks levels line : List ℕ) (i : ℕ) where
  -- a claim about the first i places and about place i
  one_more : (Q : ℕ → Type 0) → ((j : ℕ) → j < i → Q j) → Q i → (j : ℕ) → j < i + 1 → Q j
  one_more Q f q j h = ⊎_elim (λ o. f j o) (λ e. subst Q (sym e) q) (last-place j i (omega arith))

  knotted-more : Knotted marks levels line i → (both_at marks line i ≡ true → stain_at levels line i ≡ true) → Knotted marks levels line (i + 1)
  knotted-more t q = record {
    place = t.place;
    low = omega (arith, t.low);
    both = t.both;
    stained = one_more (λ (j : ℕ). both_at marks line j ≡ true → stain_at levels line j ≡ true) t.stained q;
  }

  -- place j is no other best one that p does not go before
  abbrev Behind : List ℕ → ℕ → ℕ → Type 0
  Behind g p j = both_at marks line j ≡ true → stain_at levels line j ≡ false → (id_at width names line j ≡ id_at width names line p → ⊥) → goes_first (world_of width s g) (id_at width names line p) (id_at width names line j) ≡ true

  picked_more : {slot : ℕ} (t : Picked width s names marks levels line i slot) → (store_is_ok width s ≡ true → (g : List ℕ) → Behind g t.place i) → Picked width s names marks levels line (i + 1) slot
  picked_more t q = record {
    place = t.place;
    low = omega (arith, t.low);
    is = t.is;
    both = t.both;
    clean = t.clean;
    first = λ ok g. one_more (Behind g t.place) (t.first ok g) (q ok g);
  }

  told-passed : (r : Choice) → ToldChoice width s names marks levels line i r → both_at marks line i ≡ false → ToldChoice width s names marks levels line (i + 1) r
  told-passed (Ok None) t e = one_more (λ (j : ℕ). both_at marks line j ≡ false) t e
  told-passed (Err x) t e = knotted-more t (λ b. clash b e)
  told-passed (Ok (Some slot)) t e = picked_more t (λ ok g b. clash b e)

  told-met : (r : Choice) → ToldChoice width s names marks levels line i r → both_at marks line i ≡ true → stain_at levels line i ≡ true → ToldChoice width s names marks levels line (i + 1) (met_of r)
  told-met (Ok None) t b e = record {
    place = i;
    low = omega arith;
    both = b;
    stained = one_more (λ (j : ℕ). both_at marks line j ≡ true → stain_at levels line j ≡ true) (λ j h k. clash k (t j h)) (λ k. e);
  }
  told-met (Err x) t b e = knotted-more t (λ k. e)
  told-met (Ok (Some slot)) t b e = picked_more t (λ ok g k c. clash e c)

  -- place i is chosen
  chosen-here : both_at marks line i ≡ true → stain_at levels line i ≡ false → (store_is_ok width s ≡ true → (g : List ℕ) (j : ℕ) → j < i → Behind g i j)
      → Picked width s names marks levels line (i + 1) (get_or line i 0)
  chosen-here b c q = record {
    place = i;
    low = omega arith;
    is = refl;
    both = b;
    clean = c;
    first = λ ok g. one_more (Behind g i) (q ok g) (λ k d n. absurd (n refl));
  }

  -- it goes before the one that was chosen, or it does not
  told-two : (slot : ℕ) {r : Choice} → Picked width s names marks levels line i slot → both_at marks line i ≡ true → stain_at levels line i ≡ false → FirstOfTwo width s names (get_or line i 0) slot r
      → ToldChoice width s names marks levels line (i + 1) r
  told-two slot {r} t b c o = subst (ToldChoice width s names marks levels line (i + 1)) (sym o.is) (go o.by refl)
    where
      goes : store_is_ok width s ≡ true → (g : List ℕ) → o.by ≡ goes_first (world_of width s g) (id_at width names line i) (id_at width names line t.place)
      goes ok g = o.goes.right ok g ∙ ap (λ (k : ℕ). goes_first (world_of width s g) (id_at width names line i) (id_of width names k)) (sym t.is)

      go : (v : Bool) → o.by ≡ v → Picked width s names marks levels line (i + 1) (pick v (get_or line i 0) slot)
      go true e = chosen-here b c (λ ok g j h k d n. ⊎_elim
          (λ q. subst (λ (z : Id). goes_first (world_of width s g) (id_at width names line i) z ≡ true) (sym q) (sym (goes ok g) ∙ e))
          (λ q. first_trans (world_of width s g) (id_at width names line i) (id_at width names line t.place) (id_at width names line j) (sym (goes ok g) ∙ e) (t.first ok g j h k d q))
          (same_id? (id_at width names line j) (id_at width names line t.place)))
      go false e = picked_more t (λ ok g k d n. first-total (world_of width s g) (id_at width names line i) (id_at width names line t.place) n (sym (goes ok g) ∙ e))

  told-taken : (past r : Choice) → ToldChoice width s names marks levels line i past → both_at marks line i ≡ true → stain_at levels line i ≡ false → Sooner width s names past (get_or line i 0) r
      → ToldChoice width s names marks levels line (i + 1) r
  told-taken (Ok None) r t b c o = subst (ToldChoice width s names marks levels line (i + 1)) (sym o) (chosen-here b c (λ ok g j h k. clash k (t j h)))
  told-taken (Err x) r t b c o = subst (ToldChoice width s names marks levels line (i + 1)) (sym o) (chosen-here b c (λ ok g j h k d. clash (t.stained j h k) d))
  told-taken (Ok (Some slot)) r t b c o = told-two slot t b c o

  told-next : {past r : Choice} → ToldChoice width s names marks levels line i past → ChoosesNext width s names marks levels past (get_or line i 0) r → ToldChoice width s names marks levels line (i + 1) r
  told-next {past} {r} t c =
      by_cases (both_at marks line i)
      (λ b. by_cases (stain_at levels line i)
      (λ e. subst (ToldChoice width s names marks levels line (i + 1)) (sym (c.met b e)) (told-met past t b e))
      (λ e. told-taken past r t b e (c.taken b e)))
      (λ b. subst (ToldChoice width s names marks levels line (i + 1)) (sym (c.passed b)) (told-passed past t b))

-- ---- the loop

pub record Choosing (width : ℕ) (s names marks levels line : List ℕ) (n i : ℕ) (r : Choice) : Type 0 where
  pub upto : i ≤ n
  pub told : ToldChoice width s names marks levels line i r

pub choosing_first : (width : ℕ) (s names marks levels line : List ℕ) (n : ℕ) → Choosing width s names marks levels line n 0 (Ok None)
choosing_first width s names marks levels line n = record { upto = omega arith; told = λ i h. absurd (omega arith) }

pub choosing_next : {width : ℕ} {s names marks levels line : List ℕ} {n i slot : ℕ} {past r : Choice} → Choosing width s names marks levels line n i past → i < n → slot ≡ get_or line i 0
    → ChoosesNext width s names marks levels past slot r → Choosing width s names marks levels line n (i + 1) r
choosing_next {width} {s} {names} {marks} {levels} {line} {n} {i} {slot} {past} {r} v h e c = record {
  upto = omega arith;
  told = told-next width s names marks levels line i {past = past} v.told (subst (λ (k : ℕ). ChoosesNext width s names marks levels past k r) e c);
}

pub choosing_last : {width : ℕ} {s names marks levels line : List ℕ} {n i : ℕ} {r : Choice} → Choosing width s names marks levels line n i r → n ≤ i → Chooses width s names marks levels line n r
choosing_last {width} {s} {names} {marks} {levels} {line} {n} {i} {r} v h =
    record { told = let e : i ≡ n = omega (arith, v.upto) in subst (λ (k : ℕ). ToldChoice width s names marks levels line k r) e v.told }
