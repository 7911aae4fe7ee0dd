-- Laws of a list of tests over n entries. They hold of every list: whoever adds a test adds it to the list alone.
use Rattle.std.proofs.Common.{◌≡◌, ℕ, zero, suc, ◌<◌, ◌≤◌, Bool, true, false, List, [], ◌∷◌, refl, not-suc-le-zero, arith}
use Rattle.refusal.specs.Choice.{pick}
use Rattle.endian.specs.Range.{any_below, first}
use Rattle.endian.proofs.Ranges.{any-miss, any-no, told-some, told_none}
use Rattle.shard.specs.declared.index.Fault.{Fault}
use Rattle.shard.specs.index.Tests.{EntryTest, fault, row_place, test_place, first_of}

-- each of n entries passes the test
abbrev pub Passes : ℕ → EntryTest → Type 0
Passes n t = (i : ℕ) → i < n → t.fails i ≡ false

-- each passes every test
abbrev pub AllPass : ℕ → List EntryTest → Type 0
AllPass n [] = Unit {0}
AllPass n (t ∷ ts) = Passes n t × AllPass n ts

-- each test has a number from 1 to k
abbrev pub Numbered : ℕ → List EntryTest → Type 0
Numbered k [] = Unit {0}
Numbered k (t ∷ ts) = (0 < t.number) × (t.number ≤ k) × Numbered k ts

-- ---- one choice between faults

pub pick-none : (b : Bool) (f g : Fault) → (f.number ≡ 0 → ⊥) → (pick b f g).number ≡ 0 → (b ≡ false) × (g.number ≡ 0)
pick-none true f g n e = absurd (n e)
pick-none false f g n e = (refl, e)

-- ---- no fault exactly where no entry fails a test

pub none-fails : (p n k : ℕ) (ts : List EntryTest) → Numbered k ts → (first_of p n ts).number ≡ 0 → AllPass n ts
unfolding first_of
none-fails p n k [] l z = tt
none-fails p n k (t ∷ ts) l z =
    let q = pick-none (any_below n t.fails) (fault t.number (test_place p n t)) (first_of p n ts) (λ h. omega (arith, l.0)) z in
    ((λ i h. any-miss t.fails n i q.0 h), none-fails p n k ts l.2 q.1)

pub all_pass : (p n : ℕ) (ts : List EntryTest) → AllPass n ts → first_of p n ts ≡ fault 0 0
unfolding first_of
all_pass p n [] h = refl
all_pass p n (t ∷ ts) h = rw (any-no t.fails n h.0) (all_pass p n ts h.1)

-- without entries there is none
pub no-entries : (p : ℕ) (ts : List EntryTest) → first_of p 0 ts ≡ fault 0 0
no-entries p ts = all_pass p 0 ts (pass_none ts)
  where
    pass_none : (us : List EntryTest) → AllPass 0 us
    pass_none [] = tt
    pass_none (u ∷ us) = ((λ i l. absurd (not-suc-le-zero l)), pass_none us)

-- ---- lists whose tests agree at each entry give the same fault

abbrev pub Agree : ℕ → List EntryTest → List EntryTest → Type 0
Agree n [] [] = Unit {0}
Agree n [] (u ∷ us) = ⊥
Agree n (t ∷ ts) [] = ⊥
Agree n (t ∷ ts) (u ∷ us) = (t.number ≡ u.number) × (t.row ≡ u.row) × ((i : ℕ) → i < n → t.fails i ≡ u.fails i) × Agree n ts us

pub same-any : (f g : ℕ → Bool) (n : ℕ) → ((i : ℕ) → i < n → f i ≡ g i) → any_below n f ≡ any_below n g
unfolding any_below
same-any f g zero p = refl
same-any f g (suc n) p = rw (same-any f g n (λ i l. p i (omega arith)), p n (omega arith))

pub same_first : (f g : ℕ → Bool) (n : ℕ) → ((i : ℕ) → i < n → f i ≡ g i) → first f n ≡ first g n
unfolding first
same_first f g zero p = refl
same_first f g (suc n) p =
    rw (same-any f g n (λ i l. p i (omega arith)), same_first f g n (λ i l. p i (omega arith)), p n (omega arith))

pub same_tests : (p n : ℕ) (ts us : List EntryTest) → Agree n ts us → first_of p n ts ≡ first_of p n us
unfolding first_of
same_tests p n [] [] h = refl
same_tests p n [] (u ∷ us) h = absurd h
same_tests p n (t ∷ ts) [] h = absurd h
same_tests p n (t ∷ ts) (u ∷ us) h =
    rw (h.0, h.1, same-any t.fails u.fails n h.2, same_first t.fails u.fails n h.2, same_tests p n ts us h.3)

-- ---- as a loop runs through the list: what the first test leaves

module _ (p n : ℕ) (t : EntryTest) (ts : List EntryTest) where
  pub test_passed : n ≡ first t.fails n → first_of p n (t ∷ ts) ≡ first_of p n ts
  unfolding first_of
  test_passed e = rw (told_none t.fails n e (omega arith))

  pub test-failed : {i : ℕ} → i ≡ first t.fails n → i < n → first_of p n (t ∷ ts) ≡ fault t.number (row_place p n t.row i)
  unfolding first_of
  test-failed e l = rw (told-some t.fails n e l, ← e)
