-- `checking::check_records` meets its contract. Assumes nothing.
use Rattle.conversion.proofs.Checking.{refuse_count, sizes_fit, refuse_room, pass_records}
use mathlib.Core.Path.{ap}
use mathlib.Core.Bool.{not}
use Rattle.checking.proofs.check_records.Goals as goal

pub returns-then-count-gt-MOST_RECORDS : goal.returns-then-count-gt-MOST_RECORDS
returns-then-count-gt-MOST_RECORDS c ss ds types = refuse_count c.args.in_place ss ds c.args.count c.args.out c.args.other c.args.source_half.now c.args.source_type c.args.destination_half.now c.args.destination_type types c.if-count-gt-MOST_RECORDS.true

pub has_room-requires : goal.has_room-requires
has_room-requires c = sizes_fit c.args.in_place c.requires.0 c.requires.1 c.args.count c.args.out c.args.other c.args.source_half.now c.args.source_type c.args.destination_half.now c.args.destination_type c.requires.2 c.if-count-gt-MOST_RECORDS.false c.type_word-source_size.ensures c.type_word-destination_size.ensures

pub returns-then-not-has_room : goal.returns-then-not-has_room
returns-then-not-has_room c ss ds types = refuse_room c.args.in_place ss ds c.args.count c.args.out c.args.other c.args.source_half.now c.args.source_type c.args.destination_half.now c.args.destination_type types c.if-count-gt-MOST_RECORDS.false c.type_word-source_size.ensures c.type_word-destination_size.ensures c.has_room.ensures (ap not c.if-not-has_room.true)

pub returns : goal.returns
returns c ss ds types = pass_records c.args.in_place ss ds c.args.count c.args.out c.args.other c.args.source_half.now c.args.source_type c.args.destination_half.now c.args.destination_type types c.if-count-gt-MOST_RECORDS.false c.type_word-source_size.ensures c.type_word-destination_size.ensures c.has_room.ensures (ap not c.if-not-has_room.false)
