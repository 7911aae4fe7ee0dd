-- The listing: refused, too long, or written whole.
use Rattle.lookup.proofs.listings.Listings.{answer-refused, out_refused, answer-faulty, out_faulty, is-permitted, index-held, index-within, parts-readable, has_room, answer-short, out_short, answer-whole, out_whole}
use Rattle.lookup.proofs.listings.listing.Goals as goal

pub returns-then-out-count : goal.returns-then-out-count
returns-then-out-count c = record { answer = search answer-short; out = search out_short }

pub index_length-n-requires : goal.index_length-n-requires
index_length-n-requires c = search is-permitted

pub slice_bounds-put_listing-end : goal.slice_bounds-put_listing-end
slice_bounds-put_listing-end c = search index-held

pub slice_bounds-put_listing-count : goal.slice_bounds-put_listing-count
slice_bounds-put_listing-count c = search index-within

pub slice_bounds-put_listing-start : goal.slice_bounds-put_listing-start
slice_bounds-put_listing-start c = search index-within

pub put_listing-requires : goal.put_listing-requires
put_listing-requires c = (search parts-readable, search has_room)

pub returns-else-out-count : goal.returns-else-out-count
returns-else-out-count c = record { answer = search answer-whole; out = search out_whole }

pub returns-in-Refused : goal.returns-in-Refused
returns-in-Refused c = record { answer = search answer-refused; out = search out_refused }

pub returns-in-Faulty : goal.returns-in-Faulty
returns-in-Faulty c = record { answer = search answer-faulty; out = search out_faulty }
