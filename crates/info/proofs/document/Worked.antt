-- The worked cases.
use mathlib.Core.Path.{◌≡◌, refl, ◌∙◌}
use mathlib.Core.List.{List, [], ◌∷◌, map}
use Rattle.refusal.specs.Checks.{first_number, unless}
use Rattle.json_text.specs.tokens.Bytes.{choose, same, under, inside, is_ws, is_digit, span_in}
use Rattle.json_text.specs.tokens.Parts.{and_then, follow, mark_at, close_at, word_at}
use Rattle.json_text.specs.tokens.Numbers.{some_digits, int_at, frac_at, is_sign, is_e, sign_at, exp_at, unsigned_at, number_at}
use Rattle.json_text.specs.characters.Chars.{is_hex, is_short, is_tail, is_second, utf8_len, escape_len, char_len}
use Rattle.json_text.specs.strings.Chars.{chars_at, string_at}
use Rattle.json_text.specs.strings.Names.{hex_value, unit_at, utf8, short_byte, lone_unit, is_pair, unit_bytes, char_bytes, unescaped, eq_list}
use Rattle.json_text.specs.Grammar.{scalar_at, items_at, list_at, member_at, value_at, end_of, ends_at, is_json}
use Rattle.json_text.specs.members.Places.{next_element, next_member, value_of, first_in, items_by, elements, members, is_text, keep, is_name, named, only, member, once_of, needed, pick_nth, element, three_of, lone_of}
use Rattle.info.specs.numbers.Numbers.{decimal_on, decimal_at, goes_on_of, in32, digits_from_of, whole_from, natural_at, negative, above_of, below_of, coordinate_at}
use Rattle.morton.specs.grid.Grid.{grid_size, grid_of, has_zero, zero_extent}
use Rattle.morton.specs.axis.Axis.{bit_of, used}
use Rattle.morton.specs.Key.{step, steps, key_bits_of, too_many_bits}
use Rattle.sharding.specs.Specification.{allowed}
use Rattle.card.specs.fields.Twos.{bits32, signed32}
use Rattle.card.specs.Answers.{record_checks}
use Rattle.std.specs.Prelude.{Ok}
use Rattle.card.specs.declared.Card.{Card}
use Rattle.refusal.specs.Answers.{Answer, refuse}
use Rattle.info.specs.scale.Scale.{extents_of, extents_at, offset_of, offset_at_of, size_in, chunk_in, offset_by, offset_in, volume_in, typed, formed, hash_in, number_in, numbers_of, numbers_in, sharding_at, sharding_in, settings_by, settings_at}
use Rattle.info.specs.sharding_members.Values.{raw_by, hash_at, hashed_by, sharding_of}
use Rattle.info.specs.Settings.{scale_at, settings_of}
use Rattle.info.specs.Answers.{no_settings, unknown_hash, record_of, info_answer}
use Rattle.info.proofs.Ways.{placed_number, by_places}
use Rattle.info.specs.document.Worked.{Case, cases}

-- the answer by places, which is computed
unfoldable placed_answer : Case → Answer Card
placed_answer c = unless refuse (placed_number c.text c.scale) (Ok (record_of (settings_of c.text c.scale)))

all_placed : (l : List Case) → map (λ (c : Case). info_answer c.text c.scale) l ≡ map placed_answer l
unfolding placed_answer
all_placed [] = refl
all_placed (c ∷ l) = let p = by_places c.text c.scale in let q = all_placed l in λ i. p i ∷ q i

cases-placed : map placed_answer cases ≡ map (λ (c : Case). c.answer) cases
unfolding cases first_number unless choose same under inside is_ws is_digit span_in and_then follow mark_at close_at word_at some_digits int_at frac_at is_sign is_e sign_at exp_at unsigned_at number_at is_hex is_short is_tail is_second utf8_len escape_len char_len chars_at string_at hex_value unit_at utf8 short_byte lone_unit is_pair unit_bytes char_bytes unescaped eq_list scalar_at items_at list_at member_at value_at ends_at is_json next_element next_member end_of value_of first_in items_by elements members is_text keep is_name named only member once_of needed pick_nth element three_of lone_of decimal_on decimal_at goes_on_of in32 digits_from_of whole_from natural_at negative above_of below_of coordinate_at grid_size grid_of has_zero zero_extent bit_of used step steps key_bits_of too_many_bits allowed bits32 signed32 extents_of extents_at offset_of offset_at_of size_in chunk_in offset_by offset_in volume_in typed raw_by formed hash_at hash_in number_in hashed_by sharding_of numbers_of numbers_in sharding_at sharding_in settings_by settings_at scale_at settings_of no_settings unknown_hash record_of record_checks placed_number placed_answer
cases-placed = refl

pub worked : map (λ (c : Case). info_answer c.text c.scale) cases ≡ map (λ (c : Case). c.answer) cases
worked = all_placed cases ∙ cases-placed
