use Rattle.load.proofs.loading.Loader.new.Goals as goal

pub returns : goal.returns
returns c = c.in_ok-sheet.ensures
