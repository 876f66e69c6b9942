use Rattle.cli_errors.proofs.error_causes.write_film_fault.Goals as goal

pub returns-in-PictureWithoutSlices : goal.returns-in-PictureWithoutSlices
returns-in-PictureWithoutSlices g c = rw c.in-PictureWithoutSlices.is c.write_cause-in-PictureWithoutSlices.ensures

pub returns-in-HeadTooLong : goal.returns-in-HeadTooLong
returns-in-HeadTooLong g c = rw c.in-HeadTooLong.is c.write_cause-in-HeadTooLong.ensures

pub returns-in-GroupTooLong : goal.returns-in-GroupTooLong
returns-in-GroupTooLong g c = rw c.in-GroupTooLong.is c.write_cause-in-GroupTooLong.ensures

pub returns-in-HeadWithoutPicture : goal.returns-in-HeadWithoutPicture
returns-in-HeadWithoutPicture g c = rw c.in-HeadWithoutPicture.is c.write_cause-in-HeadWithoutPicture.ensures
