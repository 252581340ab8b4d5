use Rattle.names_laws.proofs.Fits as fits
use Rattle.names_laws.proofs.feeds.fitted_holds.Goals as goal

pub returns : goal.returns
returns c = fits.fitted_holds
