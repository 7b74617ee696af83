use Rattle.std.proofs.Common.{refl, rules}
use Rattle.std.proofs.lemmas.List.{take_rest}
use Rattle.load.proofs.LineWalk.{name_word}
use Rattle.load.proofs.names.name_in.Goals as goal

pub returns : goal.returns
returns c =
    name_word c.args.line _ c.new-reader.result.text c.new-reader.result.place c.word.new.self.place c.word.result
    (record { bytes = take_rest c.args.line.now 4; block = refl; offset = search rules }) c.new-reader.ensures.text c.new-reader.ensures.place c.word.ensures.cases
