-- `card::form::well_formed` meets its contract.
use Rattle.card.proofs.form.Parsing.{formed_61, formed_65, parsing}
use Rattle.card.proofs.form.well_formed.Goals as goal

pub six_fields-requires : goal.six_fields-requires
six_fields-requires c = search parsing

pub returns-then-s-eq46 : goal.returns-then-s-eq46
returns-then-s-eq46 c = search parsing

pub six_fields-requires-then-s-eq61 : goal.six_fields-requires-then-s-eq61
six_fields-requires-then-s-eq61 c = search parsing

pub offset_field-requires : goal.offset_field-requires
offset_field-requires c = search parsing

pub returns-then-s-eq61 : goal.returns-then-s-eq61
returns-then-s-eq61 c = formed_61 _ c.if-s-eq61.true c.six_fields-then-s-eq61.ensures c.offset_field.ensures

pub six_fields-requires-then-s-eq50 : goal.six_fields-requires-then-s-eq50
six_fields-requires-then-s-eq50 c = search parsing

pub kind_field-requires : goal.kind_field-requires
kind_field-requires c = search parsing

pub returns-then-s-eq50 : goal.returns-then-s-eq50
returns-then-s-eq50 c = search parsing

pub six_fields-requires-then-s-eq65 : goal.six_fields-requires-then-s-eq65
six_fields-requires-then-s-eq65 c = search parsing

pub offset_field-requires-then-s-eq65 : goal.offset_field-requires-then-s-eq65
offset_field-requires-then-s-eq65 c = search parsing

pub kind_field-requires-then-s-eq65 : goal.kind_field-requires-then-s-eq65
kind_field-requires-then-s-eq65 c = search parsing

pub returns-then-s-eq65 : goal.returns-then-s-eq65
returns-then-s-eq65 c =
    formed_65 _ c.if-s-eq65.true c.six_fields-then-s-eq65.ensures c.offset_field-then-s-eq65.ensures c.kind_field-then-s-eq65.ensures

pub returns : goal.returns
returns c = search parsing
