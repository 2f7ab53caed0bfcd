use Rattle.ror_show_forms.proofs.HeadLines.{head_made}
use Rattle.ror_show_forms.proofs.print.write_head.Goals as goal

pub returns : goal.returns
returns c =
    head_made c.args.line c.args.place c.args.numbers.now c.args.text.now.items c.write_begin.new.text.items c.write_numbers.new.text.items c.push.new.self.items c.in_ok-write_begin.ensures c.in_ok-write_numbers.ensures c.in_ok-push.ensures.items
