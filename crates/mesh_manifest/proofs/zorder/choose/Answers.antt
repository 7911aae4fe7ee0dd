-- The choice by its four cases.
use mathlib.Core.Path.{◌≡◌, refl}
use mathlib.Core.Bool.{Bool, true, false, not, ◌&&◌, ◌||◌}
use Rattle.refusal.specs.Choice.{pick}
use Rattle.mesh_manifest.proofs.zorder.choose.Goals as goal

chosen : (t a b : Bool) → (t && a) || (not t && b) ≡ pick t a b
chosen true true b = refl
chosen true false b = refl
chosen false a b = refl

pub returns : goal.returns
returns c = chosen c.args.test c.args.a c.args.b
