-- The order by the chosen axis is the order from the highest bit down.
use mathlib.Core.Path.{sym, ◌∙◌}
use lib.Bits.{xor_lt}
use Rattle.mesh_manifest.proofs.zorder.Zeros.{by_chosen}
use Rattle.mesh_manifest.proofs.zorder.Interleaved.{by-zeros}
use Rattle.mesh_manifest.proofs.zorder.before.Goals as goal

pub returns : goal.returns
returns c =
    let a = c.args in
    let f = c.ranges in
    by_chosen a.ax a.ay a.az a.bx a.by a.bz (xor_lt 32 _ _ f.ax.fits f.bx.fits) (xor_lt 32 _ _ f.ay.fits f.by.fits)
    c.higher.ensures c.choose-by_x_or_y.ensures c.higher-2.ensures c.choose.ensures
    ∙ sym (by-zeros _ _ _ _ _ _ f.ax.fits f.ay.fits f.az.fits f.bx.fits f.by.fits f.bz.fits)
