use Prim.Native.Nat.{ℕ}
use mathlib.Core.Path.{◌≡◌, refl, ap, ◌∙◌}
use Rattle.sharding.specs.declared.Sharding.{Sharding}
use Rattle.sharding.specs.declared.placement.Place.{Place}
use Rattle.refusal.specs.Answers.{Answer}
use Rattle.sharding.specs.placement.Place.{place_answer, place_result}
use Rattle.coronagamba.specs.Places.{shard_after, minishard_after}
use Rattle.coronagamba.proofs.Told.{word-success, word-refused, after}
use Rattle.coronagamba.proofs.places.coronagamba_place_of.Goals as goal

placed : (id : ℕ) {s t : Sharding} {b : Answer Place} → s ≡ t → b ≡ place_answer s id → b ≡ place_answer t id
placed id q e = e ∙ ap (λ (u : Sharding). place_answer u id) q

pub returns-in-Ok : goal.returns-in-Ok
unfolding shard_after minishard_after
returns-in-Ok c =
    let q = c.sharding_of.ensures in
    let e = placed _ q c.place_of.ensures.answer in
    let h = c.in-Ok.is in
    record { answer = word-success place_result e h refl; shard = after shard_after _ e h; minishard = after minishard_after _ e h }

pub returns-in-Err : goal.returns-in-Err
unfolding shard_after minishard_after
returns-in-Err c =
    let q = c.sharding_of.ensures in
    let e = placed _ q c.place_of.ensures.answer in
    let h = c.in-Err.is in
    record { answer = c.number.ensures ∙ word-refused place_result e h refl; shard = after shard_after _ e h; minishard = after minishard_after _ e h }
