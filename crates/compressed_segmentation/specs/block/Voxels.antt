-- What refuses a whole chunk: the refusals of its voxels (RULES E9).
use Rattle.std.specs.Prelude.{ℕ, ◌<◌, ◌≡◌, Bool, List, eqb, Ok, Err}
use Rattle.refusal.specs.Choice.{pick}
use Rattle.endian.specs.Range.{any_below}
use Rattle.compressed_segmentation.specs.declared.Shape.{Shape}
use Rattle.refusal.specs.Answers.{Answer}
use Rattle.refusal.specs.Table.{number_of}
use Rattle.compressed_segmentation.specs.Labels.{label_answer}

-- an answer's refusal number, 0 for a label
abbrev pub refusal_in : Answer ℕ → ℕ
refusal_in (Ok v) = 0
refusal_in (Err k) = (number_of k)

-- the voxel and the channel are the chunk's
pub record Within (sh : Shape) (x y z c : ℕ) : Type 0 where
  pub in_x : x < sh.extents.x
  pub in_y : y < sh.extents.y
  pub in_z : z < sh.extents.z
  pub in_c : c < sh.channels

-- some voxel is refused with k
unfoldable pub some_refused : ℕ → List ℕ → Shape → Bool
some_refused k s sh =
    any_below sh.channels (λ c.
    any_below sh.extents.z (λ z.
    any_below sh.extents.y (λ y.
    any_below sh.extents.x (λ x.
    eqb (refusal_in (label_answer s sh x y z c)) k))))

-- the number that refuses the chunk, 0 for none: "it gives 29 if any voxel would, else 28 if any would"
unfoldable pub chunk_refusal : List ℕ → Shape → ℕ
chunk_refusal s sh = pick (some_refused 29 s sh) 29 (pick (some_refused 28 s sh) 28 0)

-- each voxel has a label
pub record AllReadable (s : List ℕ) (sh : Shape) : Type 0 where
  pub answer : (x y z c : ℕ) → Within sh x y z c → refusal_in (label_answer s sh x y z c) ≡ 0
