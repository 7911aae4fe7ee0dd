-- However the chunks that an intake took were cut into parts, the close leaves their settled form at the front of the output.
use Prim.Native.Nat.{ℕ, suc, ◌+◌, ◌*◌, ◌-◌, ◌^◌, ◌≤◌, ◌<◌}
use mathlib.Core.Path.{◌≡◌, refl, sym, ap, ◌∙◌}
use mathlib.Core.Bool.{Bool, true, false}
use mathlib.Core.Logic.{⊎_elim}
use mathlib.Core.List.{List, [], ◌∷◌, ◌++◌, append_assoc, append-nil}
use native.Mathlib.Omega.{arith}
use native.Mathlib.Nat.{eq-or-lt_of_le}
use lib.Dec.{eqb}
use lib.ListN.{length, replicate, length-append, length-replicate}
use lib.Pow.{pow_pos}
use borrow.Author.Tests.{eq-eqb, ne_eqb, eqb-true}
use Rattle.endian.specs.Little.{row}
use Rattle.endian.specs.Place.{paste}
use Rattle.endian.proofs.Paste.{paste-nil}
use Rattle.sharding.specs.declared.Sharding.{Sharding}
use Rattle.sharding.specs.Specification.{minishard_count_of, minishard_bits_of}
use Rattle.sharding.specs.placement.Place.{minishard_of}
use Rattle.sharding.proofs.placement.Placed.{minishard-below}
use Rattle.shard.specs.File.{index_length_of}
use Rattle.shard.specs.Items.{Item}
use Rattle.settled_form.specs.Form.{chunks_of, chunks_length, part_length_of, parts_length, settled}
use Rattle.intake.specs.waiting.Held.{pair}
use Rattle.intake.specs.declared.state.Intake.{Intake}
use Rattle.intake.specs.state.State.{announced_length}
use Rattle.intake.proofs.admission.Passing.{announces, closes}
use Rattle.intake.proofs.call_tests.Passing.{not-below}
use Rattle.std.specs.Prelude.{Ok}
use Rattle.intake.specs.steps.Steps.{ended_left, opened, turned, turned_left, noted, announced, taken}
use Rattle.intake.specs.Calls.{open_left, announce_answer, announce_left, announce_waiting, close_answer, close_left, closes_with}
use Rattle.intake.proofs.steps.Stepped.{turned-count}
use Rattle.intake.proofs.Answered.{open-left, announce-left, announce-waiting, close-left}
use Rattle.intake.proofs.Refused.{open_told, announce_told, close-told}
use Rattle.delivered.specs.Delivered.{Delivery, concat_parts, as_item, as_items}
use Rattle.delivered.specs.Runs.{Desk, after_announce, HandsOver, Delivers, no_chunk, chunk, Takes}
use Rattle.delivered.proofs.Appends.{chunks-append, chunks-length-append, row-append, empties, empties_split, empties_settled, among-length}
use Rattle.delivered.proofs.Contents.{arrived, put_at, arrived_snoc, arrived_nil, put-among}
use Rattle.delivered.proofs.Standing.{Begins, begins-on, begins-same, pairs_of, pairs-append, length_pairs, Plain, plain_snoc, Stands, next_place, whole_length_lem, ended-begins}
use Rattle.delivered.proofs.Handing.{handed}

-- an intake that owes nothing and has the content c, opened with the output out
pub record Keeps (spec : Sharding) (out : List ℕ) (c : List (List Item)) (s : Intake) (o w : List ℕ) : Type 0 where
  pub ended : List (List Item)
  pub current : List Item
  pub after : ℕ
  pub same : s.spec ≡ spec
  pub split : c ≡ ended ++ (current ∷ empties after)
  pub stands : Stands out ended current after s o w

-- ---- open

pub opened-keeps : (spec : Sharding) (shard : ℕ) (o w : List ℕ)
    → Keeps spec o (arrived spec []) (opened spec shard (length o) (length w)) (paste 0 (replicate (index_length_of spec) 0) o) w
unfolding chunks_of chunks_length parts_length pairs_of row Plain
opened-keeps spec shard o w =
    let n = minishard_count_of spec in
    let l : 0 < n = pow_pos (minishard_bits_of spec) in
    let e : suc (n - 1) ≡ n = omega arith in
    let f : [] ∷ empties (n - 1) ≡ empties n = ap empties e in
    record {
      ended = [];
      current = [];
      after = n - 1;
      same = refl;
      split = arrived_nil spec ∙ sym f;
      stands = record {
        all = omega arith;
        here = refl;
        counted = refl;
        began = refl;
        reached = refl;
        plain = tt;
        written = begins-same (begins-on {t = []} 0 (replicate (16 * n) 0) (record { is = refl }) refl) (sym (append-nil _ ∙ ap settled f ∙ empties_settled n));
        older = w;
        waits = record { is = refl };
      };
    }

-- ---- a minishard that begins

module _ {spec : Sharding} {out : List ℕ} {c : List (List Item)} {s : Intake} {o w : List ℕ} (h : Keeps spec out c s o w) (m : ℕ) (b : m < minishard_count_of spec) where
  turned_on : m ≡ s.minishard → Keeps spec out c (turned s m) (turned_left s m o w) w
  unfolding turned turned_left
  turned_on e = rw (eq-eqb _ _ e) h

  turned-later : s.minishard < m → Keeps spec out c (turned s m) (turned_left s m o w) w
  unfolding turned turned_left chunks_of chunks_length part_length_of pairs_of row Plain
  turned-later l =
      let a = h.ended in
      let xs = h.current in
      let k = h.after in
      let t = h.stands in
      let i = m - suc (length a) in
      let j = k - suc i in
      let n : minishard_count_of spec ≡ length a + suc k = ap minishard_count_of (sym h.same) ∙ t.all in
      let e : i + suc j ≡ k = omega (arith, t.here) in
      let d = a ++ (xs ∷ empties i) in
      let ld : length d ≡ m = simp (length-append, length-replicate) (omega (arith, t.here)) in
      let ql = among-length a xs i in
      let f : a ++ (xs ∷ empties k) ≡ d ++ ([] ∷ empties j) =
      rw (empties_split i j k e) (sym (append_assoc a (xs ∷ empties i) ([] ∷ empties j))) in
      let g : settled (a ++ (xs ∷ empties k)) ≡ settled (d ++ ([] ∷ empties j)) ++ [] = ap settled f ∙ sym (append-nil _) in
      let r = t.reached in
      let q = t.counted in
      rw (ne_eqb m s.minishard (λ z. omega arith))
      (record {
        ended = d;
        current = [];
        after = j;
        same = h.same;
        split = h.split ∙ f;
        stands = record {
          all = t.all ∙ omega (arith, t.here);
          here = sym ld;
          counted = refl;
          began = omega arith;
          reached = omega arith;
          plain = tt;
          written = begins-same (ended-begins t) g;
          older = w;
          waits = record { is = refl };
        };
      })

  pub turned-keeps : s.minishard ≤ m → Keeps spec out c (turned s m) (turned_left s m o w) w
  turned-keeps l = ⊎_elim (λ e. turned_on (sym e)) (λ q. turned-later q) (eq-or-lt_of_le l)

pub turned-there : (s : Intake) (m : ℕ) → (turned s m).minishard ≡ m
unfolding turned
turned-there s m = go (eqb m s.minishard) refl
  where
    go : (b : Bool) → eqb m s.minishard ≡ b → (turned s m).minishard ≡ m
    go true e = rw e (sym (eqb-true _ _ e))
    go false e = rw e

-- ---- a chunk

one-length : (x : Item) → x.lead ≡ [] → chunks_length (x ∷ []) ≡ length x.body
unfolding chunks_length
one-length x e = rw e (omega arith)

one_chunk : (x : Item) → x.lead ≡ [] → chunks_of (x ∷ []) ≡ x.body
unfolding chunks_of
one_chunk x e = rw e (append-nil x.body)

one-pair : (x : Item) → pairs_of (x ∷ []) ≡ x.id ∷ length x.body ∷ []
unfolding pairs_of
one-pair x = refl

pub noted-keeps : {spec : Sharding} {out : List ℕ} {c : List (List Item)} {s : Intake} {o w : List ℕ} (x : Item) → Keeps spec out c s o w
    → x.lead ≡ [] → x.id < 2 ^ 64 → length x.body < 2 ^ 64
    → Keeps spec out (put_at s.minishard x c) (taken (noted s x.id (length x.body)) (length x.body))
    (paste (index_length_of s.spec + s.next) x.body o) (paste (16 * s.count) (pair x.id (length x.body)) w)
noted-keeps {s = s} x h e f g =
    let a = h.ended in
    let xs = h.current in
    let k = h.after in
    let t = h.stands in
    record {
      ended = a;
      current = xs ++ (x ∷ []);
      after = k;
      same = h.same;
      split = rw (t.here, h.split) (put-among a xs (empties k) x);
      stands = record {
        all = t.all;
        here = t.here;
        counted = omega (arith, t.counted, length-append xs (x ∷ []));
        began = t.began;
        reached = omega (arith, t.reached, chunks-length-append xs (x ∷ []), one-length x e);
        plain = plain_snoc xs x t.plain e f g;
        written =
            begins-same (begins-on (index_length_of s.spec + s.next) x.body t.written (next_place t))
            (append_assoc (settled (a ++ ([] ∷ empties k))) (chunks_of xs) x.body
            ∙ ap (◌++◌ (settled (a ++ ([] ∷ empties k)))) (sym (chunks-append xs (x ∷ []) ∙ ap (◌++◌ (chunks_of xs)) (one_chunk x e))));
        older = t.older;
        waits =
            begins-same (begins-on (16 * s.count) (pair x.id (length x.body)) t.waits (omega (arith, t.counted, length_pairs xs)))
            (sym (ap row (pairs-append xs (x ∷ []) ∙ ap (◌++◌ (pairs_of xs)) (one-pair x)) ∙ row-append (pairs_of xs) (x.id ∷ length x.body ∷ [])));
      };
    }

-- ---- a chunk announced and handed over

module _ (spec : Sharding) {out : List ℕ} (items : List Item) {d e : Desk} (x : Delivery) {s : Intake} (h : d.state.owed ≡ 0 → Keeps spec out (arrived spec items) d.state d.output d.waiting) where
  pub chunk-keeps : x.id < 2 ^ 64
      → announce_answer d.state x.id x.size d.output d.waiting ≡ Ok s
      → HandsOver (after_announce d x.id x.size s) x.parts e
      → e.state.owed ≡ 0 → Keeps spec out (arrived spec (items ++ (as_item x ∷ []))) e.state e.output e.waiting
  chunk-keeps l q r z =
      let t = d.state in
      let o = d.output in
      let w = d.waiting in
      let m = minishard_of t.spec x.id in
      let u = announce_told t x.id x.size o w q in
      let p = announces t x.id x.size (length o) w u.0 in
      let k = h p.paid in
      let sp : minishard_count_of t.spec ≡ minishard_count_of spec = ap minishard_count_of k.same in
      let g = turned-keeps k m (omega (arith, minishard-below t.spec x.id)) (not-below t x.id p.order) in
      let b = concat_parts x.parts in
      let ol : announce_left t x.id x.size o w ≡ turned_left t m o w = sym (announce-left t x.id x.size o w u.0 refl) in
      let wl : announce_waiting t x.id x.size o w ≡ paste (16 * (turned t m).count) (pair x.id x.size) w =
      rw (turned-count t m) (sym (announce-waiting t x.id x.size o w u.0 refl)) in
      let i = handed r in
      let is : e.state ≡ taken (announced t x.id x.size) (length b) = rw (← u.1) at i.state in
      let io : e.output ≡ paste (index_length_of (turned t m).spec + (turned t m).next) b (turned_left t m o w) = rw (← u.1, ol) at i.output in
      let iw : e.waiting ≡ paste (16 * (turned t m).count) (pair x.id x.size) w = rw wl at i.waiting in
      let due : length b ≤ x.size = rw (← u.1) at i.due in
      let none : x.size - length b ≡ 0 = ap (λ (y : Intake). y.owed) (sym is) ∙ z in
      let sz : x.size ≡ length b = omega arith in
      let room = p.room in
      let c : arrived spec (items ++ (as_item x ∷ [])) ≡ put_at (turned t m).minishard (as_item x) (arrived spec items) =
      arrived_snoc spec items (as_item x) ∙ ap (λ (y : Sharding). put_at (minishard_of y x.id) (as_item x) (arrived spec items)) (sym k.same)
      ∙ ap (λ (y : ℕ). put_at y (as_item x) (arrived spec items)) (sym (turned-there t m)) in
      rw (c, is, io, iw, sz) (noted-keeps (as_item x) g refl l (omega arith))

-- ---- all of them

delivers-keeps : (spec : Sharding) {out : List ℕ} (items : List Item) {d f : Desk} {xs : List Delivery} → Delivers d xs f
    → (d.state.owed ≡ 0 → Keeps spec out (arrived spec items) d.state d.output d.waiting)
    → f.state.owed ≡ 0 → Keeps spec out (arrived spec (items ++ as_items xs)) f.state f.output f.waiting
unfolding as_items
delivers-keeps spec items no_chunk h z = rw (append-nil items) (h z)
delivers-keeps spec items (chunk {x = x} {xs = xs} l q r rest) h z =
    rw (← append_assoc items (as_item x ∷ []) (as_items xs)) (delivers-keeps spec (items ++ (as_item x ∷ [])) rest (chunk-keeps spec items x h l q r) z)

-- what an opened shard is before the first chunk: as it was opened, since parts are empty where nothing is owed
pub record Idle (spec : Sharding) (shard : ℕ) (o w : List ℕ) (d : Desk) : Type 0 where
  pub state : d.state ≡ opened spec shard (length o) (length w)
  pub output : d.output ≡ paste 0 (replicate (index_length_of spec) 0) o
  pub waiting : d.waiting ≡ w

pub takes_idle : {spec : Sharding} {shard : ℕ} {out waiting : List ℕ} {xs : List Delivery} {d : Desk} → (t : Takes spec shard out waiting xs d)
    → Idle spec shard out waiting t.first
takes_idle {spec} {shard} {out} {waiting} t =
    let u = open_told spec shard out waiting t.opens in
    let i = handed t.idles in
    let b = concat_parts t.idle in
    let owed : t.state.owed ≡ 0 = ap (λ (s : Intake). s.owed) (sym u.1) in
    let n : length b ≡ 0 = omega (arith, i.due) in
    let none : b ≡ [] = nothing b n in
    let o : open_left spec shard out ≡ paste 0 (replicate (index_length_of spec) 0) out = sym (open-left spec shard out u.0 refl) in
    record {
      state = i.state ∙ rw (none, ← u.1);
      output = i.output ∙ rw none (paste-nil _ (open_left spec shard out)) ∙ o;
      waiting = i.waiting;
    }
  where
    nothing : (l : List ℕ) → length l ≡ 0 → l ≡ []
    nothing [] e = refl
    nothing (x ∷ l) e = let z : ◌≡◌ {A = ℕ} 0 1 = omega arith in absurd (omega arith)

-- what the intake kept, where nothing is owed
pub takes_keeps : {spec : Sharding} {shard : ℕ} {out waiting : List ℕ} {xs : List Delivery} {d : Desk} → Takes spec shard out waiting xs d
    → d.state.owed ≡ 0 → Keeps spec out (arrived spec (as_items xs)) d.state d.output d.waiting
takes_keeps {spec} {shard} {out} {waiting} t z =
    let i = takes_idle t in
    delivers-keeps spec [] t.delivers (λ _. rw (i.state, i.output, i.waiting) (opened-keeps spec shard out waiting)) z

-- ---- the close

module _ {spec : Sharding} {out : List ℕ} {c : List (List Item)} {s : Intake} {o w : List ℕ} (h : Keeps spec out c s o w) where
  pub keeps-length : s.owed ≡ 0 → announced_length s ≡ length (settled c)
  keeps-length z = omega (arith, whole_length_lem h.stands, ap (λ (y : List (List Item)). length (settled y)) h.split)

  pub keeps-ended : Begins out (ended_left s o w) (settled c)
  keeps-ended = begins-same (ended-begins h.stands) (ap settled (sym h.split))

-- it reports the length of the settled form of what arrived, and leaves the output with that at its front, and behind it as it was opened
pub closes_arrived : {spec : Sharding} {shard : ℕ} {out waiting : List ℕ} {xs : List Delivery} {d : Desk} {s : Intake} {n : ℕ}
    → Takes spec shard out waiting xs d → close_answer d.state d.output d.waiting ≡ closes_with s n
    → (n ≡ length (settled (arrived spec (as_items xs)))) × Begins out (close_left d.state d.output d.waiting) (settled (arrived spec (as_items xs)))
closes_arrived {d = d} t q =
    let u = close-told d.state d.output d.waiting q in
    let p = closes d.state (length d.output) d.waiting u.0 in
    let k = takes_keeps t p.paid in
    let o : close_left d.state d.output d.waiting ≡ ended_left d.state d.output d.waiting =
    sym (close-left d.state d.output d.waiting u.0 refl) in
    (sym u.1.1 ∙ keeps-length k p.paid, rw o (keeps-ended k))
