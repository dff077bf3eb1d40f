use Rattle.std.specs.Prelude.{codes}
use Rattle.text_lex.specs.Layout.{text_of}
use Rattle.ir_printer.specs.Print.{offset_flags}
use Rattle.ir_printer.proofs.Appended.{word_appended, more_appended}
use Rattle.ir_printer.proofs.opening.put_opening.Goals as goal

pub returns-in_ok-extend_from_slice-in-Offset : goal.returns-in_ok-extend_from_slice-in-Offset
returns-in_ok-extend_from_slice-in-Offset c tables =
    let arm = c.in-Offset in
    rw arm.is (more_appended c.args.out.now.items (codes "getelementptr") (text_of (offset_flags arm.inbounds arm.nuw arm.nusw)) c.put_offset_flags.new.out.items c.put_offset_flags.result c.in_ok-extend_from_slice-in-Offset.ensures.items c.put_offset_flags.ensures)

pub returns-in-Extract : goal.returns-in-Extract
returns-in-Extract c tables = rw c.in-Extract.is (word_appended c.args.out.now.items (codes "extractelement") c.extend_from_slice-in-Extract.result c.extend_from_slice-in-Extract.ensures.items)

pub returns-in-Insert : goal.returns-in-Insert
returns-in-Insert c tables = rw c.in-Insert.is (word_appended c.args.out.now.items (codes "insertelement") c.extend_from_slice-in-Insert.result c.extend_from_slice-in-Insert.ensures.items)

pub returns-in-Shuffle : goal.returns-in-Shuffle
returns-in-Shuffle c tables = rw c.in-Shuffle.is (word_appended c.args.out.now.items (codes "shufflevector") c.extend_from_slice-in-Shuffle.result c.extend_from_slice-in-Shuffle.ensures.items)
