-- What repair promises holds.
use Rattle.std.proofs.Common.{◌≡◌, ℕ, ◌<◌, ◌≤◌, ◌⊎◌, List, length, take, drop, sym, ap, ◌∙◌, inl, inr, arith, length-append, length-drop, take_at, drop_at}
use Rattle.sharding.specs.declared.Sharding.{Sharding}
use Rattle.sharding.specs.Specification.{minishard_count_of}
use Rattle.shard.specs.declared.CheckAnswer.TheVariants.{Sound}
use Rattle.shard.specs.File.{index_part, data_part, check_answer}
use Rattle.shard.proofs.Whole.{sound-passes-check}
use Rattle.repair.specs.form.Chosen.{listed, chosen, repaired_form, repaired_length}
use Rattle.repair.specs.declared.RepairAnswer.TheVariants.{Length, Refused, Faulty}
use Rattle.repair.specs.Repair.{first_index, first_data, repair_answer, repair_left}
use Rattle.repair.specs.Statement.{written, Repairs}
use Rattle.repair.proofs.Answers.{all-taken}
use Rattle.repair.proofs.Outcome.{Kept, Written, outcome}
use Rattle.repair.proofs.Taken.{form-sound, form-lists, length_repaired}
use Rattle.repair.proofs.Original.{gives, own_copies}
use Rattle.repair.proofs.Named.{bad_named, swapped-answer, swapped-left}

module _ (spec : Sharding) (shard : ℕ) (a b out : List ℕ) where
  abbrev form : List ℕ
  form = repaired_form spec shard (first_index spec a b) (first_data spec a b) (first_index spec b a) (first_data spec b a)

  abbrev long : ℕ
  long = repaired_length spec shard (first_index spec a b) (first_data spec a b) (first_index spec b a) (first_data spec b a)

  -- ---- where a length is answered

  module _ (n : ℕ) (e : repair_answer spec shard a b out ≡ Length n) where
    wrote : Written spec shard a b out
    wrote = go (outcome spec shard a b out)
      where
        go : Kept (repair_answer spec shard a b out) (repair_left spec shard a b out) out ⊎ Written spec shard a b out → Written spec shard a b out
        go (inl k) = absurd (k.never n e)
        go (inr w) = w

    counted : n ≡ long
    counted = let f = wrote.formed.answers in cc

    form-length : length form ≡ n
    form-length = length_repaired spec shard (first_index spec a b) (first_data spec a b) (first_index spec b a) (first_data spec b a) ∙ sym counted

    front : written spec shard a b out n ≡ form
    front = ap (take n) wrote.formed.leaves ∙ take_at form (drop (length form) out) n form-length

    pub past_it : (n ≤ length out) × (length (repair_left spec shard a b out) ≡ length out) × (drop n (repair_left spec shard a b out) ≡ drop n out)
    past_it =
        let w = wrote.formed.leaves in
        let r = wrote.formed.room in
        let l : n ≤ length out = omega (arith, counted) in (
          l,
          ap length w ∙ length-append form (drop (length form) out) ∙ omega (arith, length-drop (length form) out, form-length),
          ap (drop n) w ∙ drop_at form (drop (length form) out) n form-length ∙ ap (λ (k : ℕ). drop k out) form-length,
        )

    pub either_way : (repair_answer spec shard b a out ≡ Length n) × (repair_left spec shard b a out ≡ repair_left spec shard a b out)
    either_way = (swapped-answer spec shard a b out wrote ∙ e, swapped-left spec shard a b out wrote)

    pub passes-check : check_answer spec shard (written spec shard a b out n) ≡ Sound
    passes-check =
        rw front
        (sound-passes-check spec shard form
        (form-sound (all-taken spec shard _ _ _ _ wrote.formed.taken) wrote.formed.most wrote.reached.permitted wrote.reached.numbered))

    pub lists-chosen : (m : ℕ) → m < minishard_count_of spec
        → listed spec (index_part spec (written spec shard a b out n)) (data_part spec (written spec shard a b out n)) m
        ≡ chosen spec shard (first_index spec a b) (first_data spec a b) (first_index spec b a) (first_data spec b a) m
    lists-chosen m l = rw front (form-lists (all-taken spec shard _ _ _ _ wrote.formed.taken) wrote.formed.most m l)

  -- ---- where it is refused

  kept_if : ((n : ℕ) → repair_answer spec shard a b out ≡ Length n → ⊥) → repair_left spec shard a b out ≡ out
  kept_if h = go (outcome spec shard a b out)
    where
      go : Kept (repair_answer spec shard a b out) (repair_left spec shard a b out) out ⊎ Written spec shard a b out → repair_left spec shard a b out ≡ out
      go (inl k) = k.kept
      go (inr w) = absurd (h _ w.formed.answers)

  pub refused-kept : (k : ℕ) → repair_answer spec shard a b out ≡ Refused k → repair_left spec shard a b out ≡ out
  refused-kept k e = kept_if (λ n f. let z : ◌≡◌ {A = ℕ} 0 1 = cc in omega arith)

  pub faulty-kept : (k m p : ℕ) → repair_answer spec shard a b out ≡ Faulty k m p → repair_left spec shard a b out ≡ out
  faulty-kept k m p e = kept_if (λ n f. let z : ◌≡◌ {A = ℕ} 0 1 = cc in omega arith)

pub repairs : Repairs
repairs = record {
  own = λ spec shard a b out sound h. gives spec shard a a b sound (own_copies spec shard a b sound h) out;
  original = λ spec shard x a b out sound copies. gives spec shard x a b sound copies out;
  passes = passes-check;
  lists = lists-chosen;
  refused = refused-kept;
  faulty = faulty-kept;
  past = past_it;
  named = bad_named;
  swapped = either_way;
}
