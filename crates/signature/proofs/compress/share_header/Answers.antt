use Rattle.signature.proofs.Collected.{header-printed, header-kat}
use Rattle.signature.proofs.compress.share_header.Goals as goal

pub returns-in-Printed : goal.returns-in-Printed
returns-in-Printed c =
    header-printed c.args.edition c.args.i c.args.j c.in-Printed.is

pub returns-in-Kat : goal.returns-in-Kat
returns-in-Kat c =
    header-kat c.args.edition c.args.i c.args.j c.in-Kat.is
