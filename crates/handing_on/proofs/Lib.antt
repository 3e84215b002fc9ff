mod Handing
