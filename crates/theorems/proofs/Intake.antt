-- Order 11's promises, from the crates' laws.
use Rattle.delivered.proofs.Laws.{takes_in_order, closes-settled, closes-paid, cut_differently, closes-sound}
use Rattle.delivered.proofs.Placing.{part_placed}
use Rattle.delivered.proofs.Room.{open-says}
use Rattle.delivered.proofs.Says.{announce-says, part_says_lem, close-says, over_closed}
use Rattle.theorems.specs.Intake.{Order11}
use Rattle.theorems.proofs.Rows.{row_settled}

pub order_11 : Order11
order_11 = record {
  settled = λ spec shard out waiting xs d n t q. closes-settled t q;
  border = λ spec shard out waiting xs r before t q. row_settled before t q;
  cut = λ spec shard out waiting out' waiting' xs ys d e m n t q u r z. cut_differently t q u r z;
  at_once = λ spec shard out waiting xs ys d e f bytes parts s n t q r g z. part_placed t q r g z;
  paid = λ spec shard out waiting xs d t z. closes-paid t z;
  sound = λ spec shard out waiting xs d n t q. closes-sound t q;
  ordered = λ spec shard out waiting xs d t. takes_in_order t;
  opens = open-says;
  announces = λ spec shard out waiting xs d x t e. announce-says t x e;
  parts = λ spec shard out waiting xs d n t. part_says_lem t n;
  closes = λ spec shard out waiting xs d t. close-says t;
  after = λ d n q. over_closed d q;
}
