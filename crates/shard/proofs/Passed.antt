-- What a reader of entries takes from a minishard whose number of a fault is 0.
use Rattle.std.proofs.Common.{◌≡◌, ℕ, ◌+◌, ◌*◌, ◌≤◌, List, length, sym, ap, ◌∙◌, ⊎_elim, arith}
use Rattle.sharding.specs.declared.Sharding.{Sharding}
use Rattle.shard.specs.declared.index.Fault.{Fault}
use Rattle.shard.specs.index.Index.{entry_start_of, entry_end_of, entry_count, most_shard_bytes}
use Rattle.shard.specs.Faults.{fault_of}
use Rattle.shard.specs.Sound.{SoundFrom, SoundMinishard}
use Rattle.shard.specs.index.Reading.{Readable, ReadableIn}
use Rattle.shard.proofs.Judged.{passes-minishard}

-- entries of a sound minishard
from-readable : {spec : Sharding} {shard m : ℕ} {d : List ℕ} {s e base : ℕ} → SoundFrom spec shard m d s e → base ≤ most_shard_bytes → length d ≤ most_shard_bytes
    → (s ≡ e → ⊥) → Readable base d s (entry_count s e)
from-readable g b l n =
    let o = g.ordered in
    record {
      near = b;
      short = l;
      whole = ⊎_elim (λ q. absurd (n q)) (λ q. omega arith) g.within;
      inside = g.inside;
    }

pub sound-readable : {spec : Sharding} {shard : ℕ} {x d : List ℕ} {m : ℕ} → SoundMinishard spec shard x d m → 16 * m + 16 ≤ length x → length x ≤ most_shard_bytes
    → length d ≤ most_shard_bytes → ReadableIn x d m
sound-readable g h b l = record { entry = h; ordered = g.ordered; some = λ n. from-readable g b l n }

-- as the entry was read
module _ (spec : Sharding) (shard m : ℕ) (x d : List ℕ) {r : Fault} {s e : ℕ} (p : r ≡ fault_of spec shard x d m) (u : s ≡ entry_start_of x m) (v : e ≡ entry_end_of x m) (z : r.number ≡ 0) where
  sound : SoundFrom spec shard m d s e
  sound = rw (u, v) (passes-minishard spec shard x d m (ap (λ (f : Fault). f.number) (sym p) ∙ z))

  pub passed_order : s ≤ e
  passed_order = sound.ordered

  pub passed_readable : {base : ℕ} → base ≤ most_shard_bytes → length d ≤ most_shard_bytes → (s ≡ e → ⊥) → Readable base d s (entry_count s e)
  passed_readable = from-readable sound
