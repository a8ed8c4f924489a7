-- `verdict::setup::Setup::modal_of` meets its contract: in each arm the modality of its kind, and no stage where the kind is none.
use Rattle.verdict.proofs.setup.Setup.modal_of.Goals as goal

pub returns-in-AX : goal.returns-in-AX
returns-in-AX c = rw c.in-AX.is c.each_next.ensures

pub returns-in-EX : goal.returns-in-EX
returns-in-EX c = rw c.in-EX.is c.some_next.ensures

pub returns-in-AF : goal.returns-in-AF
returns-in-AF c = rw c.in-AF.is c.af.ensures

pub returns-in-EG : goal.returns-in-EG
returns-in-EG c = rw c.in-EG.is c.eg.ensures

pub returns-in-AR : goal.returns-in-AR
returns-in-AR c = rw c.in-AR.is c.ar.ensures

pub returns-in-EU : goal.returns-in-EU
returns-in-EU c = rw c.in-EU.is c.eu.ensures
